-- Certificates that are withdrawn run by run.
use Rattle.std.proofs.Common.{◌≡◌, ◌∙◌, ℕ, ◌+◌, ◌<◌, ◌≤◌, List, [], ◌∷◌, ◌++◌, Bool, true, false, cond, ◌&&◌, if◌then◌else◌, Option, Some, None, refl, ap, sym, subst, arith, ⊎_elim, inl, inr}
use Rattle.std.specs.Prelude.{not, length, count_by, Vec, Result, Ok, Err, IfOk}
use Rattle.std.specs.Global.{Global}
use Rattle.goo_types.specs.declared.fault.Fault.{Fault}
use Rattle.std.specs.Option.{option_map}
use Rattle.std.specs.FinMap.{get}
use Rattle.std.proofs.lemmas.Bool.Decides.{nat_tests}
use Rattle.std.proofs.lemmas.List.Sums.{sum_by-append, sum_by-cons}
use Rattle.goo_types.specs.Piece.{Label, label_of, covers, at_of, IsRising, IsRisingFrom}
use Rattle.goo_types.specs.Place.{account_of}
use Rattle.goo_types.specs.Range.{Numbers}
use Rattle.goo_types.specs.declared.lot_fields.LotFields.{LotFields}
use Rattle.goo_types.specs.declared.piece.Piece.{Piece}
use Rattle.goo_types.specs.declared.place.Place.{Place}
use Rattle.goo_types.specs.declared.place.Place.TheVariants.{Withdrawn}
use Rattle.goo_ranges.specs.Change.{inside, moved, meets, one_if}
use Rattle.goo_ranges.specs.Edit.{IsExact}
use Rattle.goo_ranges.specs.declared.edits.Edit.{Edit}
use Rattle.goo_spec.specs.Runs.{IsApart}
use Rattle.goo_ranges_rows.specs.Plans.{IsEditWithin, AreEditsWithin}
use Rattle.goo_ranges_rows.specs.Rows.{edited, edited_all}
use Rattle.goo_ranges_rows.proofs.Chains.{within-of_book, within-push, edited-exact, edited_all-push}
use Rattle.goo_ranges_rows.proofs.Framing.{absent-alike, failing-alike}
use Rattle.goo_ranges_rows.proofs.Mapping.{get-place_each-range}
use Rattle.goo_ranges_rows.specs.Rows.{AreRowsOf, meeting}
use Rattle.goo_types.specs.declared.command.Withdraw.{Withdraw}
use Rattle.goo_types.specs.declared.refusal.Refusal.TheVariants.{NotAllowed}
use Rattle.goo_types.specs.declared.reply.Reply.TheVariants as reply
use Rattle.goo_spec.specs.Checks.{first_refusal, when, is_issuer}
use Rattle.goo_spec.specs.Lots.{is_held, lot_in}
use Rattle.goo_spec.specs.Maps.{count_of}
use Rattle.goo_spec.specs.State.{State}
use Rattle.goo_spec.specs.Withdraw.{withdraw_refusal, withdraw_reply, with_withdrawal}
use Rattle.goo_spec.proofs.Placing.{replaced}
use Rattle.goo_core_moves.specs.Moves.{IsChangeRuling}
use Rattle.goo_core_moves.specs.Ruling.{IsRuling, plain_meaning}
use Rattle.goo_core_rules.specs.declared.ruling.Ruling.{Ruling}
use Rattle.goo_core_moves.proofs.Rulings.{ruled_change}
use Rattle.goo_core_rules.specs.Changes.{AreEditsFor, AreSmall, IsSmallFor, AreOfLots, IsLotOf}
use Rattle.goo_core_moves.specs.Changes.{AreMade}
use Rattle.goo_ranges.specs.Sparing.{IsSmall}
use Rattle.goo_ranges.proofs.Sparing.{small-for_more}
use Rattle.goo_core_rules.proofs.Changing.{small-push}
use Rattle.goo_core_rules.proofs.Lots.{inserted_lots, lots_weaker, lots_push, moved_lot}
use Rattle.goo_core_moves.specs.Withdraw.{withdrawn, run_withdrawn, runs_withdrawn, range_checks, AreCommon}
use Rattle.goo_core_moves.specs.AccountRuns.{account_in, account_runs}
use Rattle.goo_core_moves.proofs.AccountRuns.{few_runs, met_runs}
use Rattle.goo_ranges.specs.Accounts.{AreAccountRuns}
use Rattle.goo_ranges.proofs.Accounting.{accounts-alike, runs-rise}

common_none : (run : Piece) (range : Numbers) (n : ℕ) → AreCommon run range None → (covers run n && inside range.first range.last n) ≡ false
common_none run range n apart = grind (arith, nat_tests)

common_inside : (run : Piece) (range part : Numbers) (n : ℕ) → AreCommon run range (Some part) → inside part.first part.last n ≡ (covers run n && inside range.first range.last n)
common_inside run range part n common = rw (common.0, common.1) (grind (arith, nat_tests))

-- no part of the run lies in the range
pub none_made : (range : Numbers) (met : List Piece) (change : ℕ → Option Label → Option Label) (book : List Piece) (edits : List Edit) (run : Piece) (act : ℕ) → AreCommon run range None
    → AreMade range met change book edits → AreMade range met (λ n o. run_withdrawn range act run n (change n o)) book edits
none_made range met change book edits run act apart made = record {
  within = made.within;
  book_is = made.book_is;
  small = made.small;
  lots = made.lots;
  changes = λ n. made.changes n ∙ sym (ap (λ (b : Bool). if b then option_map (λ (label : Label). (label.0, Withdrawn (account_of run.place) act)) (change n (at_of met n)) else change n (at_of met n)) (common_none run range n apart));
}

pub none_met : (range : Numbers) (run : Piece) → AreCommon run range None → one_if (meets range.first range.last run) ≡ 0
none_met range run apart = let out : meets range.first range.last run ≡ false = grind (arith, nat_tests) in ap one_if out

pub part_met : (range part : Numbers) (run : Piece) → AreCommon run range (Some part) → one_if (meets range.first range.last run) ≡ 1
part_met range part run common = let here : meets range.first range.last run ≡ true = grind (arith, nat_tests, common.0, common.1, common.2) in ap one_if here

module _ (range part : Numbers) (run : Piece) (act : ℕ) (common : AreCommon run range (Some part)) where
  abbrev place : Place
  place = Withdrawn (account_of run.place) act

  beyond : (n : ℕ) (o : Option Label) → inside range.first range.last n ≡ false → moved part.first part.last place n o ≡ o
  beyond n o out =
      let none : inside part.first part.last n ≡ false = common_inside run range part n common ∙ ap (λ b. covers run n && b) out ∙ elim (covers run n) as (λ b. (b && false) ≡ false) [ true ↦ refl | false ↦ refl ] in
      ap (λ (b : Bool). if b then option_map (λ (label : Label). (label.0, place)) o else o) none

  -- the part of the run that lies in the range, withdrawn by one edit
  pub part_made : (met : List Piece) (change : ℕ → Option Label → Option Label) (old new : List Piece) (es edits : List Edit) (edit : Edit) → edits ≡ es ++ edit ∷ []
      → IsExact old new edit → IsRising old → IsRising new → (IsApart old → IsApart new) → ((n : ℕ) → at_of new n ≡ moved part.first part.last place n (at_of old n)) → IsSmall part.first part.last old edit
      → AreMade range met change old es → AreMade range met (λ n o. run_withdrawn range act run n (change n o)) new edits
  part_made met change old new es edits edit are exact was now apart map small made =
      let one : IsEditWithin range (edited_all es met) edit = subst (λ b. IsEditWithin range b edit) made.book_is (within-of_book range old new edit (moved part.first part.last place) exact was now apart beyond map) in
      let still : (lot : LotFields) → IsLotOf (at_of met) (at_of old) lot → IsLotOf (at_of met) (at_of new) lot =
      λ lot is. (
        is.0,
        ⊎_elim
            (λ (before : lot_in (at_of met is.0) ≡ Some lot). inl before)
            (λ (here : lot_in (at_of old is.0) ≡ Some lot). inr (ap lot_in (map is.0) ∙ moved_lot (inside part.first part.last is.0) place (at_of old is.0) ∙ here))
            is.1,
      ) in
      let begins : range.first ≤ part.first = let first = common.0 in omega (arith, first) in
      let ends : part.last ≤ range.last = let last = common.1 in omega (arith, last) in
      let few : IsSmallFor (range ∷ []) (edited_all es met) edit = (range, (0, omega arith, refl), small-for_more part.first part.last range.first range.last (edited_all es met) edit begins ends (subst (λ b. IsSmall part.first part.last b edit) made.book_is small)) in
      record {
        within = subst (AreEditsWithin range met) (sym are) (within-push range met es edit made.within one);
        book_is = sym (edited-exact old new edit exact was now) ∙ ap (edited edit) made.book_is ∙ sym (edited_all-push met es edit) ∙ ap (λ l. edited_all l met) (sym are);
        changes = λ n. map n
            ∙ ap (λ (b : Bool). if b then option_map (λ (label : Label). (label.0, place)) (at_of old n) else at_of old n) (common_inside run range part n common)
            ∙ ap (run_withdrawn range act run n) (made.changes n);
        small = subst (AreSmall (range ∷ []) met) (sym are) (small-push (range ∷ []) met es edit made.small (inr few));
        lots = subst (AreOfLots (IsLotOf (at_of met) (at_of new))) (sym are) (lots_push (IsLotOf (at_of met) (at_of new)) es edit (lots_weaker (IsLotOf (at_of met) (at_of old)) (IsLotOf (at_of met) (at_of new)) still es made.lots)
            (inserted_lots (at_of met) old new edit exact now));
      }

-- one run more
pub runs_withdrawn_push : (range : Numbers) (act : ℕ) (ps : List Piece) (p : Piece) (n : ℕ) (o : Option Label) → runs_withdrawn range act (ps ++ p ∷ []) n o ≡ run_withdrawn range act p n (runs_withdrawn range act ps n o)
runs_withdrawn_push range act [] p n o = refl
runs_withdrawn_push range act (q ∷ ps) p n o = runs_withdrawn_push range act ps p n (run_withdrawn range act q n o)

pub counted_push : (range : Numbers) (ps : List Piece) (p : Piece) → count_by (meets range.first range.last) (ps ++ p ∷ []) ≡ count_by (meets range.first range.last) ps + one_if (meets range.first range.last p)
counted_push range ps p =
    let met : Piece → ℕ = λ q. one_if (meets range.first range.last q) in
    omega (arith, sum_by-append met ps (p ∷ []), sum_by-cons met p [])

-- a number below the runs stays
untouched : (range : Numbers) (act low : ℕ) (ps : List Piece) (n : ℕ) (o : Option Label) → IsRisingFrom low ps → n < low → runs_withdrawn range act ps n o ≡ o
untouched range act low [] n o r below = refl
untouched range act low (p ∷ ps) n o r below =
    let out : (covers p n && inside range.first range.last n) ≡ false = grind (arith, nat_tests, r.0) in
    ap (runs_withdrawn range act ps n) (ap (λ (b : Bool). if b then option_map (λ (label : Label). (label.0, Withdrawn (account_of p.place) act)) o else o) out)
    ∙ untouched range act (p.last + 1) ps n o r.2 (omega (arith, r.0, r.1.0))

-- from the account that a run names, or from the one that the number's own place names
named_alike : (act a : ℕ) (b : Bool) (o : Option Label) → Some a ≡ account_in o
    → (if b then option_map (λ (label : Label). (label.0, Withdrawn a act)) o else o) ≡ (if b then option_map (λ (label : Label). (label.0, Withdrawn (account_of label.1) act)) o else o)
named_alike act a true None same = absurd (cc)
named_alike act a true (Some label) same = let e : a ≡ account_of label.1 = cc in ap (λ (k : ℕ). Some (label.0, Withdrawn k act)) e
named_alike act a false o same = refl

none_named : (act : ℕ) (b : Bool) (o : Option Label) → None ≡ account_in o → o ≡ (if b then option_map (λ (label : Label). (label.0, Withdrawn (account_of label.1) act)) o else o)
none_named act true None same = refl
none_named act true (Some label) same = absurd (cc)
none_named act false o same = refl

-- run by run each number of the range is withdrawn
all_withdrawn : (range : Numbers) (act low : ℕ) (ps : List Piece) (n : ℕ) (o : Option Label) → IsRisingFrom low ps → account_in (at_of ps n) ≡ account_in o → runs_withdrawn range act ps n o ≡ withdrawn range act n o
all_withdrawn range act low [] n o r same = none_named act (inside range.first range.last n) o same
all_withdrawn range act low (p ∷ ps) n o r same =
    elim (covers p n) as (λ b. covers p n ≡ b → account_in (if b then Some (label_of p) else at_of ps n) ≡ account_in o
    → runs_withdrawn range act ps n (if b && inside range.first range.last n then option_map (λ (label : Label). (label.0, Withdrawn (account_of p.place) act)) o else o) ≡ withdrawn range act n o) [
      | true ↦ λ here named. untouched range act (p.last + 1) ps n (if inside range.first range.last n then option_map (λ (label : Label). (label.0, Withdrawn (account_of p.place) act)) o else o) r.2 (grind (arith, nat_tests, here))
          ∙ named_alike act (account_of p.place) (inside range.first range.last n) o named
      | false ↦ λ here named. all_withdrawn range act (p.last + 1) ps n o r.2 named
    ] refl same

-- the edits, run by run, are those of the whole range
pub withdrawn_edits : (range : Numbers) (act : ℕ) (runs book new : List Piece) (edits : List Edit) → AreAccountRuns book runs → AreMade range book (runs_withdrawn range act runs) new edits → AreEditsFor range book (withdrawn range act) edits
withdrawn_edits range act runs book new edits are made = record {
  within = made.within;
  small = made.small;
  lots = subst (λ l. AreOfLots (IsLotOf (at_of book) (at_of l)) edits) made.book_is made.lots;
  changes = λ n. ap (λ l. at_of l n) (sym made.book_is) ∙ made.changes n ∙ all_withdrawn range act 0 runs n (at_of book n) (runs-rise book runs are) (accounts-alike book runs are n);
}

-- a withdrawal as the definitions say it
pub same_withdrawn : (act : ℕ) (b : Bool) (o : Option Label) → cond b (replaced (λ lot place. Withdrawn (account_of place) act) o) o ≡ (if b then option_map (λ (label : Label). (label.0, Withdrawn (account_of label.1) act)) o else o)
same_withdrawn act true None = refl
same_withdrawn act true (Some label) = refl
same_withdrawn act false o = refl

pub ruled_withdraw : (s : State) (rows met : List Piece) (caller : List ℕ) (x : Withdraw) (next : ℕ) (ruling : Ruling) → AreRowsOf s.at rows
    → is_issuer caller ≡ true → next ≡ s.next_withdrawal → met ≡ meeting x.range rows
    → IsChangeRuling (first_refusal (range_checks (at_of met) next x)) (reply.Withdrawn next (count_of x.range)) None x.range (withdrawn x.range next) (account_runs (at_of met) x.range) met ruling
    → IsRuling (plain_meaning (withdraw_refusal s caller x) (withdraw_reply s x) (with_withdrawal s x).at (λ rows. account_runs (get s.at) x.range) (x.range ∷ [])) rows ruling
unfolding withdraw_refusal withdraw_reply with_withdrawal
ruled_withdraw s rows met caller x next ruling kept issuer number is ruled =
    let act = s.next_withdrawal in
    let here : IsChangeRuling (first_refusal (range_checks (at_of met) act x)) (reply.Withdrawn act (count_of x.range)) None x.range (withdrawn x.range act) (account_runs (at_of met) x.range) met ruling
    = subst (λ (k : ℕ). IsChangeRuling (first_refusal (range_checks (at_of met) k x)) (reply.Withdrawn k (count_of x.range)) None x.range (withdrawn x.range k) (account_runs (at_of met) x.range) met ruling) number ruled in
    let alike : first_refusal (range_checks (get s.at) act x) ≡ first_refusal (range_checks (at_of met) act x) =
    rw (is, ← absent-alike s.at rows x.range kept, ← failing-alike (λ lot place. is_held place) s.at rows x.range kept) refl in
    let issued : first_refusal (when (not (is_issuer caller)) NotAllowed ∷ range_checks (get s.at) act x) ≡ first_refusal (range_checks (get s.at) act x) =
    ap (λ b. first_refusal (when (not b) NotAllowed ∷ range_checks (get s.at) act x)) issuer in
    ruled_change (plain_meaning (withdraw_refusal s caller x) (withdraw_reply s x) (with_withdrawal s x).at (λ rows. account_runs (get s.at) x.range) (x.range ∷ [])) s.at rows met (first_refusal (range_checks (at_of met) act x)) x.range (withdrawn x.range act) (account_runs (at_of met) x.range) ruling kept is refl
    (issued ∙ alike)
    (λ n o out. ap (λ (b : Bool). if b then option_map (λ (label : Label). (label.0, Withdrawn (account_of label.1) act)) o else o) out)
    (λ up n. get-place_each-range (λ lot place. Withdrawn (account_of place) act) (λ lot place. refl) x.range s.at n up ∙ same_withdrawn act (inside x.range.first x.range.last n) (get s.at n))
    (λ up. let same = met_runs s.at rows met x.range kept is in omega (arith, same))
    refl here

pub withdrawn_edits_if : (range : Numbers) (act : ℕ) (runs book new : List Piece) (result : Result (Vec Edit Global) Fault) → range.first ≤ range.last → AreAccountRuns book runs
    → IfOk result (λ edits. AreMade range book (runs_withdrawn range act runs) new edits.items)
    → IfOk result (λ edits. (range.first ≤ range.last) × AreEditsFor range book (withdrawn range act) edits.items)
withdrawn_edits_if range act runs book new (Ok edits) up are made = (up, withdrawn_edits range act runs book new edits.items are made)
withdrawn_edits_if range act runs book new (Err e) up are made = tt

pub few_edits_if : (range : Numbers) (runs book : List Piece) (result : Result (Vec Edit Global) Fault) → range.first ≤ range.last → AreAccountRuns book runs
    → IfOk result (λ edits. length edits.items ≡ count_by (meets range.first range.last) runs)
    → IfOk result (λ edits. length edits.items ≤ account_runs (at_of book) range)
few_edits_if range runs book (Ok edits) up are counted = omega (arith, counted, few_runs range book runs up are)
few_edits_if range runs book (Err e) up are counted = tt
