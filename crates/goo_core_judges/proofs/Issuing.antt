-- What a declaration issues, and what it comes to.
use Rattle.std.proofs.Common.{◌≡◌, ◌≢◌, ◌∙◌, ℕ, zero, suc, ◌+◌, ◌-◌, ◌≤◌, ◌∷◌, ◌++◌, ◌==◌, List, [], Bool, true, false, cond, if◌then◌else◌, Option, Some, None, refl, ap, sym, subst, inr, arith}
use Rattle.std.proofs.lemmas.Bool.Decides.{nat_tests}
use Rattle.std.proofs.lemmas.List.Elements.{All-cons, All-nil, Contains-push}
use Rattle.std.proofs.lemmas.List.{length_push}
use Rattle.std.specs.Prelude.{All, IfSome, not, length}
use Rattle.std.specs.Option.{option_to_list}
use Rattle.std.specs.FinMap.{get}
use Rattle.goo_types.specs.Number.{code_of}
use Rattle.goo_types.specs.Piece.{Label, label_of, covers, at_of, IsForward, IsRising}
use Rattle.goo_types.specs.declared.command.Declare.{Declare}
use Rattle.goo_types.specs.declared.lot_fields.LotFields.{LotFields}
use Rattle.goo_types.specs.declared.piece.Piece.{Piece}
use Rattle.goo_types.specs.declared.place.Place.{Place}
use Rattle.goo_types.specs.declared.place.Place.TheVariants.{Held}
use Rattle.goo_types.specs.declared.refusal.Refusal.{Refusal}
use Rattle.goo_types.specs.declared.refusal.Refusal.TheVariants.{NotAllowed}
use Rattle.goo_types.specs.declared.reply.Reply.TheVariants.{Declared}
use Rattle.goo_types.specs.Range.{Numbers}
use Rattle.goo_spec.specs.Checks.{first_refusal, when, is_issuer}
use Rattle.goo_spec.specs.Declare.{declare_refusal, declare_reply, device_refusal, device_checks, with_issue, issued_for, range_of, next_number, earned, lot_of}
use Rattle.goo_spec.specs.Lots.{Certificates, key_of, lot_in}
use Rattle.goo_spec.specs.Maps.{give_each, numbers_from}
use Rattle.goo_spec.specs.Runs.{IsApart}
use Rattle.goo_spec.specs.Sound.{IsSound}
use Rattle.goo_spec.specs.State.{State, Device, serials}
use Rattle.goo_spec.proofs.Declaring.{AreNew, are_new}
use Rattle.goo_spec.proofs.Mapping.{none_some}
use Rattle.goo_ranges.specs.Change.{inside, set_to}
use Rattle.goo_ranges.specs.Sparing.{IsSmall}
use Rattle.goo_ranges.specs.declared.edits.Edit.{Edit}
use Rattle.goo_ranges_rows.specs.Rows.{AreRowsOf, edited, with}
use Rattle.goo_ranges_rows.proofs.Mapping.{get-give_each-range}
use Rattle.goo_core_rules.specs.Changes.{AreSmall, IsLotOf}
use Rattle.goo_core_rules.specs.declared.ruling.Ruling.{Ruling}
use Rattle.goo_core_rules.specs.declared.ruling.Ruling.TheVariants.{Refused, Repeated, Passed}
use Rattle.goo_core_moves.specs.Changes.{IsTurnedInTurn}
use Rattle.goo_core_moves.specs.Ruling.{IsRuling, plain_meaning}
use Rattle.goo_core_moves.proofs.Changing.{unturned}
use Rattle.goo_core_judges.specs.Issue.{AreForIssue, IsIssueRuling, row_of, issue_with, terms_of, appraisal_with, appraisal_by, appraisal_of, range_in, with_issued}
use Rattle.goo_core_judges.specs.declared.issue.Appraisal.TheVariants.{Fails, Passes}
use Rattle.goo_core_judges.specs.declared.issue.Issue.{Issue}
use Rattle.goo_core_judges.specs.declared.issue.Terms.{Terms}
use Rattle.goo_core_judges.proofs.Fresh.{clear_of, others_of, rising-with, at-with, apart-with}

-- the certificates of a range one by one
issued-each : (first count : ℕ) (lot : LotFields) (account : ℕ) (at : Certificates) → give_each (numbers_from first count) lot (Held account) at ≡ with_issued (issue_with (range_of first count) lot account) at
issued-each first zero lot account at = refl
issued-each first (suc count) lot account at =
    let e : suc (first + suc count - 1) - first ≡ suc count = omega arith in
    let some : (suc count == 0) ≡ false = grind (arith, nat_tests) in
    rw some (sym (ap (λ (k : ℕ). give_each (numbers_from first k) lot (Held account) at) e))

range-issued : (o : Option Numbers) (lot : LotFields) (account : ℕ) → range_in (issue_with o lot account) ≡ o
range-issued None lot account = refl
range-issued (Some range) lot account = refl

-- what a declaration of certain terms comes to
pub record IsDeclared (s : State) (caller : List ℕ) (x : Declare) (terms : Terms) : Type 0 where
  pub allowed : declare_refusal s caller x ≡ None
  pub answered : Declared terms.carry (range_in terms.issue) ≡ declare_reply s x
  pub after : (with_issue s x).at ≡ with_issued terms.issue s.at
  pub issued : range_in terms.issue ≡ range_of (next_number s) (earned s x)

checked-fails : (b : Bool) (device : Option Refusal) (terms : Terms) (r : Refusal) → Fails r ≡ cond b (appraisal_with device terms) (Fails NotAllowed) → first_refusal (when (not b) NotAllowed ∷ device ∷ []) ≡ Some r
checked-fails false device terms r is = cc
checked-fails true None terms r is = absurd (cc)
checked-fails true (Some q) terms r is = cc

checked-passes : (b : Bool) (device : Option Refusal) (terms found : Terms) → Passes found ≡ cond b (appraisal_with device terms) (Fails NotAllowed) → (first_refusal (when (not b) NotAllowed ∷ device ∷ []) ≡ None) × (found ≡ terms)
checked-passes false device terms found is = absurd (cc)
checked-passes true None terms found is = (refl, cc)
checked-passes true (Some q) terms found is = absurd (cc)

fails-by : (s : State) (x : Declare) (b : Bool) (o : Option Device) (r : Refusal) → Fails r ≡ cond b (appraisal_by s x o) (Fails NotAllowed) → first_refusal (when (not b) NotAllowed ∷ device_refusal s x o ∷ []) ≡ Some r
fails-by s x false None r is = cc
fails-by s x true None r is = cc
fails-by s x b (Some device) r is = checked-fails b (first_refusal (device_checks s x device)) (terms_of s x device) r is

-- a declaration that the checks refuse
pub declared_fails : (s : State) (caller : List ℕ) (x : Declare) (r : Refusal) → Fails r ≡ appraisal_of s caller x → declare_refusal s caller x ≡ Some r
unfolding appraisal_of declare_refusal
declared_fails s caller x r is = fails-by s x (is_issuer caller) (get s.devices x.device) r is

passes-by : (s : State) (x : Declare) (b : Bool) (o : Option Device) (terms : Terms) → Passes terms ≡ cond b (appraisal_by s x o) (Fails NotAllowed)
    → (first_refusal (when (not b) NotAllowed ∷ device_refusal s x o ∷ []) ≡ None) × (device : Device) × (o ≡ Some device) × (terms ≡ terms_of s x device)
passes-by s x false None terms is = absurd (cc)
passes-by s x true None terms is = absurd (cc)
passes-by s x b (Some device) terms is =
    let both = checked-passes b (first_refusal (device_checks s x device)) (terms_of s x device) terms is in
    (both.0, device, refl, both.1)

-- and one that they let pass
pub declared_passes : (s : State) (caller : List ℕ) (x : Declare) (terms : Terms) → Passes terms ≡ appraisal_of s caller x → IsDeclared s caller x terms
unfolding appraisal_of declare_refusal declare_reply with_issue
declared_passes s caller x terms is =
    let found = passes-by s x (is_issuer caller) (get s.devices x.device) terms is in
    let device = found.1 in
    record {
      allowed = found.0;
      answered = ap (λ (t : Terms). Declared t.carry (range_in t.issue)) found.3 ∙ ap (λ o. Declared (terms_of s x device).carry o) (range-issued (range_of (next_number s) (earned s x)) (lot_of s x device) device.account);
      after = ap (λ o. (issued_for s x o).at) found.2 ∙ issued-each (next_number s) (earned s x) (lot_of s x device) device.account s.at ∙ sym (ap (λ (t : Terms). with_issued t.issue s.at) found.3);
      issued = ap (λ (t : Terms). range_in t.issue) found.3 ∙ range-issued (range_of (next_number s) (earned s x)) (lot_of s x device) device.account;
    }

-- an issue of new numbers, whose lot no certificate has
pub record IsNewIssue (at : Certificates) (issue : Issue) : Type 0 where
  pub forward : IsForward (row_of issue)
  pub numbers : (n : ℕ) → issue.range.first ≤ n → n ≤ issue.range.last → get at n ≡ None
  pub lot : (n : ℕ) (lot : LotFields) (place : Place) → get at n ≡ Some (lot, place) → lot ≢ issue.lot

new_of : (s : State) (x : Declare) (device : Device) → IsSound s → AreNew s x device → (count : ℕ) → earned s x ≡ count → IfSome (issue_with (range_of (next_number s) count) (lot_of s x device) device.account) (IsNewIssue s.at)
new_of s x device sound new zero is = tt
new_of s x device sound new (suc count) is =
    let some : (suc count == 0) ≡ false = grind (arith, nat_tests) in
    let fits : s.next_serial + suc count ≤ serials = subst (λ (k : ℕ). s.next_serial + k ≤ serials) is new.fits in
    let low : code_of (next_number s) ≡ s.own = omega (arith, fits) in
    let high : code_of (next_number s + suc count - 1) ≡ s.own = omega (arith, fits) in
    rw some (record {
      forward = (omega arith, low ∙ sym high);
      numbers = λ n from to. new.numbers n from (omega (arith, to, is));
      lot = λ n lot place has same. none_some lot (sym new.lot ∙ subst (λ (k : LotFields). get s.lots (key_of k) ≡ Some lot) same (sound.known.known n lot place has));
    })

-- what an accepted declaration issues
issue_is_new : (s : State) (caller : List ℕ) (x : Declare) (terms : Terms) → IsSound s → Passes terms ≡ appraisal_of s caller x → IfSome terms.issue (IsNewIssue s.at)
unfolding appraisal_of
issue_is_new s caller x terms sound is =
    let found = passes-by s x (is_issuer caller) (get s.devices x.device) terms is in
    let new = are_new s caller x found.1 found.2 (declared_passes s caller x terms is).allowed sound in
    subst (λ (t : Terms). IfSome t.issue (IsNewIssue s.at)) (sym found.3) (new_of s x found.1 sound new (earned s x) refl)

edited-one : (edit : Edit) (p : Piece) (rows : List Piece) → edit.delete.items ≡ [] → edit.insert.items ≡ p ∷ [] → edited edit rows ≡ with p rows
unfolding edited
edited-one edit p rows deleted inserted = rw (deleted, inserted) refl

none_last : {X : Type 0} (rest : List X) (x : X) → [] ≡ rest ++ x ∷ [] → ⊥
none_last rest x is = let long = length_push rest x in let short = ap length is in absurd (omega (arith, long, short))

small-one : (range : Numbers) (rows : List Piece) (edit : Edit) (p : Piece) → edit.delete.items ≡ [] → edit.insert.items ≡ p ∷ [] → IsSmall range.first range.last rows edit
small-one range rows edit p deleted inserted =
    let none : length edit.delete.items ≡ 0 = ap length deleted in
    let one : length edit.insert.items ≡ 1 = ap length inserted in
    record {
      deleted = omega (arith, none);
      inserted = omega (arith, one);
      sparing = record {
        front = [];
        deleted = [];
        back = rows;
        was = refl;
        named = deleted;
        spared = record {
          before = λ q rest more lt was is. absurd (cc);
          behind = λ q rest more lt was is. none_last rest q was;
        };
      };
    }

-- the one row of an issue turns the rows into those after it
issued_turned : (at : Certificates) (rows : List Piece) (issue : Issue) (edit : Edit) → AreRowsOf at rows → IsNewIssue at issue → edit.delete.items ≡ [] → edit.insert.items ≡ row_of issue ∷ []
    → IsTurnedInTurn (issue.range ∷ []) (with_issued (Some issue) at) rows (edit ∷ [])
issued_turned at rows issue edit kept new deleted inserted =
    let p = row_of issue in
    let after = with_issued (Some issue) at in
    let label : Label = (issue.lot, Held issue.account) in
    let clear = clear_of p 0 rows new.forward.0 kept.disjoint (λ n from to. kept.same n ∙ new.numbers n from to) in
    let others = others_of issue.lot 0 rows kept.disjoint (λ n lot place has. new.lot n lot place (sym (kept.same n) ∙ has)) in
    let same = edited-one edit p rows deleted inserted in
    let rising : IsRising (edited edit rows) = subst IsRising (sym same) (rising-with p 0 rows (omega arith) new.forward kept.disjoint clear) in
    let given : (n : ℕ) → get after n ≡ set_to issue.range.first issue.range.last label n (get at n) = λ n. get-give_each-range issue.range issue.lot (Held issue.account) at n new.forward.0 in
    let first : inside issue.range.first issue.range.last issue.range.first ≡ true = let up = new.forward.0 in grind (arith, nat_tests) in
    let there : lot_in (get after issue.range.first) ≡ Some issue.lot = ap lot_in (given issue.range.first ∙ ap (λ (b : Bool). if b then Some label else get at issue.range.first) first) in
    let P : Piece → Type 0 = λ q. IsLotOf (at_of rows) (get after) q.lot in
    let Q : Edit → Type 0 = λ e. All P e.insert.items in
    record {
      turned = record {
        fits = record {
          disjoint = rising;
          same = λ n.
              ap (λ l. at_of l n) same
              ∙ at-with p 0 rows n new.forward kept.disjoint clear
              ∙ ap (λ o. if covers p n then Some (label_of p) else o) (kept.same n)
              ∙ sym (given n);
        };
        apart = λ apart. subst IsApart (sym same) (apart-with p rows others apart);
      };
      rising = (kept.disjoint, rising);
      small = (inr (issue.range, Contains-push [] issue.range, small-one issue.range rows edit p deleted inserted), tt);
      lots = All-cons Q edit [] (subst (All P) (sym inserted) (All-cons P p [] (issue.range.first, inr there) (All-nil P))) (All-nil Q);
    }

-- the edits of an issue, if there is one
turned-if : (at : Certificates) (rows : List Piece) (o : Option Issue) (edits : List Edit) → AreRowsOf at rows → IfSome o (IsNewIssue at) → AreForIssue o edits
    → IsTurnedInTurn (option_to_list (range_in o)) (with_issued o at) rows edits × (length edits ≤ 1)
turned-if at rows None edits kept new are = subst (λ es. IsTurnedInTurn [] at rows es × (length es ≤ 1)) (sym are) (unturned [] at rows kept, omega arith)
turned-if at rows (Some issue) edits kept new are =
    subst (λ es. IsTurnedInTurn (issue.range ∷ []) (with_issued (Some issue) at) rows es × (length es ≤ 1)) (sym are.1) (issued_turned at rows issue are.0 kept new are.2 are.3, omega arith)

-- a declaration that passes, with the edits of its issue
pub ruled_declare : (s : State) (rows : List Piece) (caller : List ℕ) (x : Declare) (terms : Terms) (ruling : Ruling) → AreRowsOf s.at rows → IsSound s → Passes terms ≡ appraisal_of s caller x → IsIssueRuling terms ruling
    → IsRuling (plain_meaning (declare_refusal s caller x) (declare_reply s x) (with_issue s x).at (λ rows. 1) (option_to_list (range_of (next_number s) (earned s x)))) rows ruling
ruled_declare s rows caller x terms (Refused refusal) kept sound is made = absurd made
ruled_declare s rows caller x terms (Repeated reply) kept sound is made = absurd made
ruled_declare s rows caller x terms (Passed change) kept sound is made =
    let declared = declared_passes s caller x terms is in
    let turned = turned-if s.at rows terms.issue change.edits.items kept (issue_is_new s caller x terms sound is) made.2 in
    record {
      fresh = refl;
      allowed = declared.allowed;
      answered = made.0 ∙ declared.answered;
      sent = made.1;
      rising = turned.0.rising;
      turned = rw declared.after turned.0.turned;
      few = turned.1;
      small = subst (λ o. AreSmall (option_to_list o) rows change.edits.items) declared.issued turned.0.small;
      lots = rw declared.after turned.0.lots;
    }
