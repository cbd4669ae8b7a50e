-- What a connection is answered, and the state that this leaves.
use Rattle.std.specs.Prelude.{◌≡◌, ◌⊎◌, ℕ, Bool, false, List, None, Result, Ok, Err}
use Rattle.goo_core_shelf.specs.Desk.{Seen}
use Rattle.goo_desk_heads.specs.Requests.{Decides, Parts, is_for_head}
use Rattle.goo_desk_heads.specs.declared.request.RefusedHead.{RefusedHead}
use Rattle.goo_desk_responses.specs.Responses.{response_text, fixed}
use Rattle.goo_desk_responses.specs.declared.status.Status.{Status}
use Rattle.goo_desk_responses.specs.declared.status.Status.TheVariants.{Unavailable}
use Rattle.goo_desk_backend.specs.Backends.{Showing, Importing, Beginning}
use Rattle.goo_desk_answers.specs.Responds.{Responds, Fails}

-- whether a head alone is asked for
abbrev pub asks_for_head : Result Parts RefusedHead → Bool
asks_for_head (Ok p) = is_for_head p.method
asks_for_head (Err refused) = refused.is_head

-- what is sent after a fault
abbrev pub IsApology : List ℕ → List ℕ → Type 0
IsApology bytes text = (d : Result Parts RefusedHead) × Decides bytes d × (text ≡ response_text (asks_for_head d) (fixed Unavailable None))

-- what is sent where there was no room to read a request
abbrev pub unread_text : List ℕ
unread_text = response_text false (fixed Unavailable None)

module _ (shows : Showing) (imports : Importing) (begins : Beginning) where
  -- the response of a status, and the state after it
  pub record IsAnswered (old : Seen) (bytes : List ℕ) (status : Status) (text : List ℕ) (new : Seen) : Type 0 where
    pub response : new.corruptions ≡ 0 → Responds shows imports old.state bytes status text new.state
    -- nothing of it is left to be done: a crash finds just this state, by `settled` of every desk
    pub sure : new.corruptions ≡ 0 → old.defects ≡ 0 → new.defects ≡ 0

  -- a fault took its place
  pub record IsExcused (old : Seen) (bytes : List ℕ) (status : Status) (text : List ℕ) (new : Seen) : Type 0 where
    pub unavailable : status ≡ Unavailable
    pub text_is : IsApology bytes text
    pub state : new.defects ≡ 0 → Fails imports begins old.state bytes new.state

  abbrev pub IsServed : Seen → List ℕ → Status → List ℕ → Seen → Type 0
  IsServed old bytes status text new = IsAnswered old bytes status text new ⊎ IsExcused old bytes status text new
