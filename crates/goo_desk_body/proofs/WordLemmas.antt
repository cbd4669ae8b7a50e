-- A word states the command of its name, and one that is none of the thirteen states none.
use Rattle.std.proofs.Common.{◌≡◌, ◌≢◌, ℕ, List, Bool, true, false, codes, Result, Err, refl, sym, subst}
use Rattle.std.specs.Str.{bytes_eq}
use Rattle.std.proofs.lemmas.Slice.Eq.{bytes_eq-Decides}
use Rattle.serde_json.specs.Data.{Data}
use Rattle.goo_types.specs.declared.command.Command.{Command}
use Rattle.goo_notice_json.specs.declared.value_fault.ValueFault.{ValueFault}
use Rattle.goo_notice_json.specs.declared.value_fault.ValueFault.TheVariants.{Shape}
use Rattle.goo_notice_json.specs.Faults.{Gives}
use Rattle.goo_notice.specs.Command.{command_named}

not_true : (b : Bool) → b ≢ true → b ≡ false
not_true true h = absurd (h refl)
not_true false h = refl

differs : (a b : List ℕ) → a ≢ b → bytes_eq a b ≡ false
differs a b h = not_true (bytes_eq a b) (λ e. h ((bytes_eq-Decides a b).0 e))

pub unknown_word : (word : List ℕ) (others : ℕ) (d : Data)
    → word ≢ codes "open_holder" → word ≢ codes "open_account" → word ≢ codes "close_account"
    → word ≢ codes "register_device" → word ≢ codes "declare" → word ≢ codes "correct" → word ≢ codes "transfer"
    → word ≢ codes "cancel" → word ≢ codes "withdraw" → word ≢ codes "advance"
    → word ≢ codes "add_peer" → word ≢ codes "export" → word ≢ codes "import"
    → command_named word others d ≡ Err Shape
unfolding command_named
unknown_word word others d a b c e f g h i j k l m n =
    rw (
      differs _ _ a,
      differs _ _ b,
      differs _ _ c,
      differs _ _ e,
      differs _ _ f,
      differs _ _ g,
      differs _ _ h,
      differs _ _ i,
      differs _ _ j,
      differs _ _ k,
      differs _ _ l,
      differs _ _ m,
      differs _ _ n,
    ) refl

-- a word that is known
pub by_word : (word name : List ℕ) (d : Data) (result : Result Command ValueFault) → word ≡ name → Gives (λ c. c) result (command_named name 1 d) → Gives (λ c. c) result (command_named word 1 d)
by_word word name d result is h = subst (λ w. Gives (λ (c : Command). c) result (command_named w 1 d)) (sym is) h
