-- What a declaration issues.
use Rattle.std.specs.Prelude.{◌≡◌, ℕ, ◌+◌, cond, nat_lt, List, [], ◌∷◌, Option, Some, None}
use Rattle.std.specs.FinMap.{get}
use Rattle.goo_types.specs.Range.{Numbers}
use Rattle.goo_types.specs.declared.command.Declare.{Declare}
use Rattle.goo_types.specs.declared.refusal.Refusal.{Refusal}
use Rattle.goo_types.specs.declared.lot_fields.LotFields.{LotFields}
use Rattle.goo_types.specs.declared.piece.Piece.{Piece}
use Rattle.goo_types.specs.declared.reply.Reply.TheVariants.{Declared}
use Rattle.goo_types.specs.declared.refusal.Refusal.TheVariants.{NotAllowed, UnknownDevice, PeriodOrder, Stale, AuxExceedsGross, OverCapacity, NumbersExhausted}
use Rattle.goo_types.specs.declared.place.Place.TheVariants.{Held}
use Rattle.goo_spec.specs.Lots.{Certificates}
use Rattle.goo_spec.specs.Maps.{each, give_each}
use Rattle.goo_spec.specs.Checks.{when, first_refusal, is_issuer}
use Rattle.goo_spec.specs.Days.{is_over}
use Rattle.goo_spec.specs.State.{State, Device, serials}
use Rattle.goo_spec.specs.Declare.{device_checks, with_declaration, range_of, next_number, earned, lot_of, begins_too_early, last_end, declared_by, most_energy}
use Rattle.goo_spec.specs.Energy.{carry}
use Rattle.goo_ranges.specs.declared.edits.Edit.{Edit}
use Rattle.goo_core_shelf.specs.Shelf.{progress_of}
use Rattle.goo_core_shelf.specs.Meta.{meta_of}
use Rattle.goo_core_rules.specs.declared.ruling.Ruling.{Ruling}
use Rattle.goo_core_rules.specs.declared.ruling.Ruling.TheVariants.{Passed}
use Rattle.goo_core_judges.specs.declared.declare.Standing.{Standing}
use Rattle.goo_core_judges.specs.declared.issue.Issue.{Issue}
use Rattle.goo_core_judges.specs.declared.issue.Terms.{Terms}
use Rattle.goo_core_judges.specs.declared.issue.Appraisal.{Appraisal}
use Rattle.goo_core_judges.specs.declared.issue.Appraisal.TheVariants.{Fails, Passes}

-- the checks of a declaration against its device's earlier ones and its capacity
abbrev pub energy_checks : State → Declare → Device → List (Option Refusal)
energy_checks s x device =
    when (begins_too_early (last_end None (declared_by x.device s.declarations)) x.first_day) PeriodOrder
    ∷ when (is_over (lot_of s x device) s.today) Stale
    ∷ when (nat_lt x.gross x.aux) AuxExceedsGross
    ∷ when (nat_lt (most_energy device x) x.gross) OverCapacity
    ∷ when (nat_lt serials (s.next_serial + earned s x)) NumbersExhausted
    ∷ []

-- the certificates of a range, if there is one
abbrev pub issue_with : Option Numbers → LotFields → ℕ → Option Issue
issue_with None lot account = None
issue_with (Some range) lot account = Some (record { range = range; lot = lot; account = account })

-- what a declaration of a device comes to
abbrev pub terms_of : State → Declare → Device → Terms
terms_of s x device = record {
  carry = carry (with_declaration s x) x.device;
  issue = issue_with (range_of (next_number s) (earned s x)) (lot_of s x device) device.account;
}

-- what the checks of a declaration that ask for the device come to
abbrev pub appraisal_with : Option Refusal → Terms → Appraisal
appraisal_with (Some refusal) terms = Fails refusal
appraisal_with None terms = Passes terms

abbrev pub appraisal_by : State → Declare → Option Device → Appraisal
appraisal_by s x None = Fails UnknownDevice
appraisal_by s x (Some device) = appraisal_with (first_refusal (device_checks s x device)) (terms_of s x device)

-- what the checks of a declaration come to
unfoldable pub appraisal_of : State → List ℕ → Declare → Appraisal
appraisal_of s caller x = cond (is_issuer caller) (appraisal_by s x (get s.devices x.device)) (Fails NotAllowed)

-- what a declaration is judged by, where its device is known
pub record IsStanding (s : State) (number : List ℕ) (standing : Standing) : Type 0 where
  pub device : get s.devices number ≡ Some standing.device
  pub account : standing.account ≡ get s.accounts standing.device.account
  pub progress : standing.progress ≡ progress_of s number
  pub meta : standing.meta ≡ meta_of s

-- the same, where it may be unknown
abbrev pub IsStandingIf : State → List ℕ → Option Standing → Type 0
IsStandingIf s number None = get s.devices number ≡ None
IsStandingIf s number (Some standing) = IsStanding s number standing

-- the numbers of an issue, if there is one
abbrev pub range_in : Option Issue → Option Numbers
range_in None = None
range_in (Some issue) = Some issue.range

-- the certificates with those that are issued
abbrev pub with_issued : Option Issue → Certificates → Certificates
with_issued None at = at
with_issued (Some issue) at = give_each (each issue.range) issue.lot (Held issue.account) at

-- the row of an issue
abbrev pub row_of : Issue → Piece
row_of issue = record { first = issue.range.first; last = issue.range.last; lot = issue.lot; place = Held issue.account }

-- one edit, which adds the row of the issue, if there is one
abbrev pub AreForIssue : Option Issue → List Edit → Type 0
AreForIssue None edits = edits ≡ []
AreForIssue (Some issue) edits = (edit : Edit) × (edits ≡ edit ∷ []) × (edit.delete.items ≡ []) × (edit.insert.items ≡ row_of issue ∷ [])

-- the terms are the reply, and their issue is made
abbrev pub IsIssueRuling : Terms → Ruling → Type 0
IsIssueRuling terms (Passed change) = (change.reply ≡ Declared terms.carry (range_in terms.issue)) × (change.notice ≡ None) × AreForIssue terms.issue change.edits.items
IsIssueRuling terms _ = ⊥
