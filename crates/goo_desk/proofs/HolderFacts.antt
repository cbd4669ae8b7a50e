-- Holders are sent what their own accounts make.
use Rattle.std.proofs.Common.{◌≡◌, ◌⊎◌, ℕ, false, List, inl, inr, subst}
use Rattle.goo_core_shelf.specs.Desk.{Seen}
use Rattle.goo_desk_responses.specs.declared.status.Status.{Status}
use Rattle.goo_desk_backend.specs.Showing.{shown_by, imported_by, begun_by}
use Rattle.goo_desk_independent.specs.Asking.{Answers, AnswerAlike}
use Rattle.goo_desk_independent.proofs.Holders.{holders_see_their_own}
use Rattle.goo_desk_server.specs.ConnectionServed.{asks_for_head, IsServed, unread_text}
use Rattle.goo_desk.specs.Holders.{IsAlike, IsUnavailable, OwnAloneIsSent}

-- an answer, or that a fault came
by_reply : (old new : Seen) (bytes : List ℕ) (status : Status) (text : List ℕ) → new.corruptions ≡ 0 → IsServed shown_by imported_by begun_by old bytes status text new ⊎ ((new ≡ old) × (text ≡ unread_text))
    → Answers old.state bytes status text ⊎ IsUnavailable text
by_reply old new bytes status text honest (inl (inl answered)) = inl (new.state, answered.response honest)
by_reply old new bytes status text honest (inl (inr excused)) = let (d, decides, is) = excused.text_is in inr (asks_for_head d, is)
by_reply old new bytes status text honest (inr (same, is)) = inr (false, is)

alike : (old from : Seen) (bytes : List ℕ) (one other : Status) (text as_well : List ℕ) → AnswerAlike bytes old.state from.state → Answers old.state bytes one text ⊎ IsUnavailable text → Answers from.state bytes other as_well ⊎ IsUnavailable as_well
    → IsAlike text as_well
alike old from bytes one other text as_well same (inl answer) (inl again) = inl (same one other text as_well answer again).1
alike old from bytes one other text as_well same (inl answer) (inr fault) = inr (inr fault)
alike old from bytes one other text as_well same (inr fault) second = inr (inl fault)

pub own_alone_is_sent : OwnAloneIsSent
own_alone_is_sent known fresh closed old new one heard blank end from to other holder subject private date agree same asks honest sure =
    alike old from one.bytes one.status other.status one.text other.text (holders_see_their_own holder old.state from.state private date agree one.bytes subject asks)
    (by_reply old new one.bytes one.status one.text honest one.replied)
    (subst (λ bytes. Answers from.state bytes other.status other.text ⊎ IsUnavailable other.text) same (by_reply from to other.bytes other.status other.text sure other.replied))
