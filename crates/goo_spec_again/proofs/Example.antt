-- A refusal with another reason when a list comes again; and a list that is not as if it were sent once, for a refused request of it is accepted then.
use Rattle.std.proofs.Common.{◌≡◌, ◌≢◌, ◌∙◌, ℕ, true, List, [], ◌∷◌, Some, None, refl, sym, ap, subst, arith}
use Rattle.std.specs.Prelude.{codes, slice_index}
use Rattle.std.specs.Cmp.Lexicographic.{nat_list_cmp_total}
use Rattle.std.specs.FinMap.{get, empty, get-empty, contains_key}
use Rattle.goo_types.specs.Day.{day_number}
use Rattle.goo_types.specs.declared.command.Command.{Command}
use Rattle.goo_types.specs.declared.command.Command.TheVariants as command
use Rattle.goo_types.specs.declared.command.Declare.{Declare}
use Rattle.goo_types.specs.declared.outcome.Outcome.TheVariants.{Accepted, Repeated, Refused}
use Rattle.goo_types.specs.declared.refusal.Refusal.TheVariants.{AuxExceedsGross, KeyReused, UnknownHolder}
use Rattle.goo_types.specs.declared.reply.Reply.TheVariants.{Account, Done}
use Rattle.goo_types.specs.declared.request.Request.{Request}
use Rattle.jiff_core.specs.Calendar.{day_count, days_of_months}
use Rattle.goo_spec.specs.Checks.{issuer}
use Rattle.goo_spec.specs.Days.{is_over}
use Rattle.goo_spec.specs.Declare.{declare_refusal}
use Rattle.goo_spec.specs.OpenAccount.{open_account_refusal, open_account_reply}
use Rattle.goo_spec.specs.OpenHolder.{open_holder_refusal, open_holder_reply, with_holder}
use Rattle.goo_spec.specs.Run.{outcomes, final}
use Rattle.goo_spec.specs.State.{State, receipt_cmp, text_cmp}
use Rattle.goo_spec.specs.Step.{accept, after, next, outcome}
use Rattle.goo_spec.proofs.ExampleKeys.{answers, declares, january, january_issue, produced, sends, three_times}
use Rattle.goo_spec.proofs.ExampleRegistry.{base, device, account_1, sun}
use Rattle.goo_spec.proofs.ExampleYears.{before_2020, before_2025, before_2026}
use Rattle.goo_spec.proofs.Keys.{receipts_total, receipts_same}
use Rattle.goo_spec.proofs.Mapping.{get_other, contains_set}
use Rattle.goo_spec.proofs.Receipts.{refused_later, repeated_later}
use Rattle.goo_spec_again.specs.Whole.{IsAgain, IsAsSentOnce}

-- ---- January, first with more auxiliaries than production, and then as it was, under one key

abbrev wrong : Declare
wrong = produced 1 2

abbrev table : List Request
table = declares wrong ∷ declares january ∷ []

head : {X : Type 0} (x y : X) (xs ys : List X) → x ∷ xs ≡ y ∷ ys → x ≡ y
head x y xs ys is = cc

accepts_january : outcome base (declares january) ≡ Accepted january_issue
accepts_january = head _ _ _ _ three_times

refuses_wrong : declare_refusal base issuer wrong ≡ Some AuxExceedsGross
unfolding declare_refusal is_over day_number day_count days_of_months
refuses_wrong = rw (device, account_1, before_2020, before_2025, before_2026) refl

refused_wrong : outcome base (declares wrong) ≡ Refused AuxExceedsGross
refused_wrong = rw (get-empty receipt_cmp (issuer, codes "c1"), refuses_wrong) refl

-- the first is refused for its auxiliaries, the second is accepted
pub once : outcomes base table ≡ Refused AuxExceedsGross ∷ Accepted january_issue ∷ []
once = answers base base (declares wrong) (declares january ∷ []) _ _ refused_wrong refl (answers base _ (declares january) [] _ _ accepts_january refl refl)

gross_of : Command → ℕ
gross_of (command.Declare x) = x.gross
gross_of _ = 0

others : command.Declare january ≢ command.Declare wrong
unfolding gross_of
others is = let clash : 1234567890 ≡ 1 = ap gross_of is in absurd (omega (arith, clash))

-- when both come again the first is refused for its key, and the second is repeated
pub again : outcomes (next base (declares january)) table ≡ Refused KeyReused ∷ Repeated january_issue ∷ []
again =
    let t = next base (declares january) in
    answers t t (declares wrong) (declares january ∷ []) _ _ (refused_later base (declares january) (declares wrong) january_issue [] accepts_january refl refl others) refl
    (answers t t (declares january) [] _ _ (repeated_later base (declares january) january_issue [] accepts_january) refl refl)

-- ---- an account for a holder that becomes known later

abbrev unknown : State
unknown = record base { holders = empty }

abbrev opens : Request
opens = sends issuer (codes "a1") (command.OpenAccount (record { holder = sun }))

abbrev names : Request
names = sends issuer (codes "h1") (command.OpenHolder (record { holder = sun; name = codes "Sun" }))

-- refused, as the holder is unknown
refused_opening : outcome unknown opens ≡ Refused UnknownHolder
unfolding open_account_refusal
refused_opening = rw (get-empty receipt_cmp (issuer, codes "a1"), get-empty text_cmp sun) refl

abbrev known : State
known = accept unknown names

accepted_naming : outcome unknown names ≡ Accepted Done
unfolding open_holder_refusal open_holder_reply
accepted_naming = rw (get-empty receipt_cmp (issuer, codes "h1"), get-empty text_cmp sun) refl

apart : ◌≢◌ {A = List ℕ × List ℕ} (issuer, codes "a1") (issuer, codes "h1")
apart is = let clash : 97 ≡ 104 = ap (λ (k : List ℕ × List ℕ). slice_index k.1 0) is in absurd (omega (arith, clash))

free : get known.receipts (issuer, codes "a1") ≡ None
unfolding accept with_holder
free = get_other receipts_total receipts_same empty (issuer, codes "h1") _ (issuer, codes "a1") apart ∙ get-empty receipt_cmp (issuer, codes "a1")

is_known : contains_key known.holders sun ≡ true
unfolding accept with_holder
is_known = contains_set nat_list_cmp_total empty sun (codes "Sun")

accepted_opening : outcome known opens ≡ Accepted (Account 3)
unfolding open_account_refusal open_account_reply accept with_holder
accepted_opening = rw (free, is_known) refl

-- so not every list is as if it were sent once
pub not_every_list : ((s : State) (part rest : List Request) → IsAsSentOnce s part rest) → ⊥
unfolding next
not_every_list law =
    let first : IsAgain (outcome unknown opens) (outcome (final unknown (opens ∷ names ∷ [])) opens) = (law unknown (opens ∷ names ∷ []) []).outcomes_are.0 in
    let refused : IsAgain (Refused UnknownHolder) (outcome (final unknown (opens ∷ names ∷ [])) opens) = subst (λ o. IsAgain o (outcome (final unknown (opens ∷ names ∷ [])) opens)) refused_opening first in
    let stays : next unknown opens ≡ unknown = ap (after unknown opens) refused_opening in
    let comes : next unknown names ≡ known = ap (after unknown names) accepted_naming in
    let ends : final unknown (opens ∷ names ∷ []) ≡ known = ap (λ u. next u names) stays ∙ comes in
    let clash : Accepted (Account 3) ≡ Refused refused.0 = sym accepted_opening ∙ ap (λ u. outcome u opens) (sym ends) ∙ refused.1 in
    absurd (cc)
