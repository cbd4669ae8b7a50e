-- The lines of a statement, added up.
use Rattle.std.proofs.Common.{◌≡◌, ℕ, ◌+◌, ◌≤◌, ◌==◌, ◌&&◌, Bool, true, false, cond, List, Option, Some, None, refl, sym, ap, ◌∙◌, arith}
use Rattle.std.specs.Prelude.{count_by}
use Rattle.std.specs.FinMap.{get, find, entries, entries_sorted, get-entries}
use Rattle.std.specs.Ordering.{nat_cmp}
use Rattle.goo_types.specs.Piece.{Label, label_of, at_of, IsForward}
use Rattle.goo_types.specs.Place.{account_of}
use Rattle.goo_types.specs.declared.piece.Piece.{Piece}
use Rattle.goo_types.specs.declared.place.Place.{Place}
use Rattle.goo_spec.specs.Sound.{IsSound}
use Rattle.goo_spec.specs.State.{State}
use Rattle.goo_spec.specs.Energy.{issued, corrected, is_taken_back}
use Rattle.goo_spec.proofs.Counting.{one_at}
use Rattle.goo_spec.proofs.Pieces.{one_code}
use Rattle.goo_spec_laws.specs.Classes.{Class, is_of, all_of, those_in, stated_in, over_accounts}
use Rattle.goo_spec_laws.proofs.Stating.{by_account}
use Rattle.goo_core_reads.specs.Reads.{kept_if, names}
use Rattle.goo_files.specs.Texts.{AreRunsNaming}
use Rattle.goo_files_classes.specs.Told.{is_run_of, told_of, of_device, StatementsAddUp}
use Rattle.goo_files_classes.proofs.Summing.{sum_below, alike, beyond, by_number, above, by_run}

module _ (s : State) (class : Class) (there : Place → Bool) (account : ℕ) where
  -- an own certificate of the class in such a place, whoever's it is
  abbrev passes : ℕ × Label → Bool
  passes e = is_of s.own class e && there e.1.1

  -- and of the account
  abbrev is_its : ℕ × Label → Bool
  is_its e = is_of s.own class e && (there e.1.1 && (account_of e.1.1 == account))

  parted : (a b c : Bool) (n : ℕ) (known : Label) → passes (n, known) ≡ (a && b) → ◌≡◌ {A = ℕ} (cond (a && (b && c)) 1 0) (one_at passes n (cond c (Some known) None))
  parted a b false n known is = never a b
    where
      never : (a b : Bool) → ◌≡◌ {A = ℕ} (cond (a && (b && false)) 1 0) 0
      never true true = refl
      never true false = refl
      never false b = refl
  parted a b true n known is = both a b ∙ ap (λ x. cond x 1 0) (sym is)
    where
      both : (a b : Bool) → ◌≡◌ {A = ℕ} (cond (a && (b && true)) 1 0) (cond (a && b) 1 0)
      both true true = refl
      both true false = refl
      both false b = refl

  of_account : (n : ℕ) (o : Option Label) → one_at is_its n o ≡ one_at passes n (kept_if (names account) o)
  of_account n None = refl
  of_account n (Some known) = parted (is_of s.own class (n, known)) (there known.1) (account_of known.1 == account) n known refl

  of_one_code : (r : Piece) → IsForward r → (n : ℕ) → r.first ≤ n → n ≤ r.last → passes (n, label_of r) ≡ is_run_of s.own class there r
  of_one_code r forward n from to = ap (λ (code : ℕ). (code == s.own && class r.lot) && there r.place) (one_code r.first r.last n from to forward.1)

  told : (runs : List Piece) → AreRunsNaming s account runs → told_of s.own class there runs ≡ stated_in account there class s
  told runs are =
      let n = beyond is_its (entries s.at) + above runs in
      let ours : sum_below n (λ k. one_at is_its k (find nat_cmp k (entries s.at))) ≡ stated_in account there class s = by_number is_its (entries s.at) (entries_sorted s.at) n (omega arith) in
      let theirs : sum_below n (λ k. one_at passes k (at_of runs k)) ≡ told_of s.own class there runs = by_run passes (is_run_of s.own class there) of_one_code 0 runs are.rising n (omega arith) in
      sym theirs
      ∙ alike n (λ k. one_at passes k (at_of runs k)) (λ k. one_at is_its k (find nat_cmp k (entries s.at)))
      (λ k. ap (one_at passes k) (are.same k) ∙ sym (of_account k (get s.at k)) ∙ ap (one_at is_its k) (get-entries s.at k))
      ∙ ours

-- a sum over accounts, account by account
each_account : (n : ℕ) (h g : ℕ → ℕ) → ((account : ℕ) → h account ≡ g account) → over_accounts n h ≡ over_accounts n g
each_account n h g same = λ i. over_accounts n (λ account. same account i)

all_told : (s : State) → IsSound s → (class : Class) (there : Place → Bool) (runs : ℕ → List Piece) → ((account : ℕ) → AreRunsNaming s account (runs account))
    → over_accounts s.next_account (λ account. told_of s.own class there (runs account)) ≡ those_in there class s
all_told s sound class there runs are =
    each_account s.next_account (λ account. told_of s.own class there (runs account)) (λ account. stated_in account there class s) (λ account. told s class there account (runs account) (are account))
    ∙ sym (by_account s sound class there)

anywhere : (b : Bool) → (b && true) ≡ b
anywhere true = refl
anywhere false = refl

is_issued : (s : State) (device : List ℕ) → all_of (of_device device) s ≡ issued s device
unfolding issued
is_issued s device = refl

is_corrected : (s : State) (device : List ℕ) → those_in (is_taken_back device s.corrections) (of_device device) s ≡ corrected s device
unfolding corrected
is_corrected s device = refl

all_issued : (s : State) → IsSound s → (class : Class) (runs : ℕ → List Piece) → ((account : ℕ) → AreRunsNaming s account (runs account))
    → over_accounts s.next_account (λ account. told_of s.own class (λ place. true) (runs account)) ≡ all_of class s
all_issued s sound class runs are =
    all_told s sound class (λ place. true) runs are ∙ (λ i. count_by (λ e. anywhere (is_of s.own class e) i) (entries s.at))

pub statements_add_up : StatementsAddUp
statements_add_up s sound = record {
  each = λ class there account runs are. told s class there account runs are;
  all = λ class there runs are. all_told s sound class there runs are;
  issued = λ class runs are. all_issued s sound class runs are;
  audited = λ device runs are. all_issued s sound (of_device device) runs are ∙ is_issued s device;
  taken_back = λ device runs are. all_told s sound (of_device device) (is_taken_back device s.corrections) runs are ∙ is_corrected s device;
}
