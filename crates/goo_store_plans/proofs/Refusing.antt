-- What is looked up before a commit is refused only where the disk failed.
use Rattle.std.proofs.Common.{◌≡◌, ◌≢◌, ◌≤◌, ◌<◌, ◌^◌, ◌+◌, ◌&&◌, ℕ, ℤ, pos, List, All, find, reverse, slice_get, inl, inr, Bool, true, is_some, IsTrue, IsSome, IsSomeAnd, IfSome, Option, Some, None, option_map, refl, sym, ap, subst, ◌∙◌, arith, true≢false, Ok, Err, Result, IfOk, IfErr, IsOkUnless}
use Rattle.std.specs.Cmp.Lexicographic.{nat_list_cmp_total}
use Rattle.std.specs.FinMap.{get}
use Rattle.std.specs.List.{Any}
use Rattle.std.specs.Ordering.{eq_by_cmp, int_eq}
use Rattle.sqlite_disk.specs.Disk.{MoreFaults}
use Rattle.sqlite.specs.State.{State, HasCleanDisk}
use Rattle.sqlite.specs.Effect.{Database}
use Rattle.sqlite.specs.declared.error.Error.{Error}
use Rattle.sqlite.specs.declared.error.Error.TheVariants.{SqliteFailure}
use Rattle.sqlite.specs.declared.error.ErrorCode.TheVariants.{OutOfMemory}
use Rattle.sqlite_keyed.specs.Keyed.{next_key}
use Rattle.sqlite_keyed.proofs.RuleLemmas.{first_of_both, second_of_both}
use Rattle.sqlite_keyed.proofs.SliceLemmas.{is_some-map}
use Rattle.sqlite_typed.specs.Tests.{bytes_eq}
use Rattle.goo_types.specs.Day.{IsDay}
use Rattle.goo_types.specs.Gsrn.{gsrn_reading}
use Rattle.goo_types.specs.Texts.{day_text}
use Rattle.goo_types.specs.declared.lot_fields.LotFields.{LotFields}
use Rattle.goo_spec.specs.Lots.{key_of}
use Rattle.goo_spec.specs.State.{text_cmp}
use Rattle.goo_tables_rows.specs.declared.correction.CorrectionRow.{CorrectionRow}
use Rattle.goo_tables_rows.specs.declared.declaration.DeclarationRow.{DeclarationRow}
use Rattle.goo_tables_rows.specs.declared.device.DeviceRow.{DeviceRow}
use Rattle.goo_tables_rows.specs.declared.lot.LotRow.{LotRow}
use Rattle.goo_tables_rows.specs.Refused.{IsFault, FailsOnlyByFault}
use Rattle.goo_tables_rows.specs.Rows.{Tables, Device, Lot, correction_in, declaration_in, device_in, lot_in, lot_key, bare_lot}
use Rattle.goo_tables_rows.specs.Stands.{Stands, Looks}
use Rattle.goo_tables_rows.proofs.Results.{if_ok}
use Rattle.goo_store_open.specs.Reading.{CanBeRead}
use Rattle.goo_store_rules.proofs.CanBeRead.{kept_can_be_read}
use Rattle.goo_spec_tables.specs.Devices.{progress_in}
use Rattle.goo_spec_tables.specs.Kept.{AreKept}
use Rattle.goo_spec_tables.specs.Places.{lot_of}
use Rattle.goo_spec_tables.specs.Readable.{is_act, is_device, is_maybe_day, is_plant, reads}
use Rattle.goo_spec_tables.specs.States.{known_lot}
use Rattle.goo_spec_tables.specs.Texts.{day_of}
use Rattle.goo_spec_tables.proofs.Known.{get-known, lot_test}
use Rattle.goo_store_plans.specs.AtHand.{HasRoom}
use Rattle.goo_store_plans.specs.LookingUp.{LooksUp, IsOurs}
use Rattle.goo_store_plans.specs.LotRows.{next_correction, next_declaration, next_lot}
use Rattle.goo_store_plans.specs.NewLots.{known_lots}
use Rattle.goo_store_values.specs.Reading.{IsReadableLot}
use Rattle.goo_store_plans.specs.StoreFaults.{BlamesDisk}
use Rattle.goo_store_values.specs.Passing.{Accepts}
use Rattle.goo_store_plans.proofs.Gathering.{next_lot_is}
use Rattle.goo_store_values.specs.declared.statement_fault.StatementFault.{StatementFault}
use Rattle.goo_store_values.specs.declared.statement_fault.StatementFault.TheVariants.{Memory, Refused}

-- ---- one statement, whose answer was read

pub more_faults : (old new : State) (e : Error) → IsTrue old.is_open → e ≢ SqliteFailure OutOfMemory → IsFault old new e → MoreFaults old.faults new.faults
more_faults old new e live other (inl memory) = absurd (other memory)
more_faults old new e live other (inr (named, inl more)) = more
more_faults old new e live other (inr (named, inr shut)) = absurd (true≢false (sym live ∙ shut))

read_so : (old new : State) {T U : Type 0} (IsReadable : T → Type 0) (q : Result T Error) (read : Result U StatementFault) → IsTrue old.is_open → IfErr q (IsFault old new) → IfOk q IsReadable → Accepts q read IsReadable
    → IfErr read (λ e. e ≡ Refused → MoreFaults old.faults new.faults)
read_so old new IsReadable q (Ok y) live faulty found accepts = tt
read_so old new IsReadable q (Err Memory) live faulty found accepts = λ is. absurd cc
read_so old new IsReadable (Ok x) (Err Refused) live faulty found accepts = absurd (let is = accepts found in cc)
read_so old new IsReadable (Err e) (Err Refused) live faulty found accepts = λ _. more_faults old new e live accepts faulty

module _ (old new : State) {T : Type 0} (r : Result T Error) (right : Tables → T → Type 0) (looks : Looks old new r right) where
  pub blames_read : {U : Type 0} (Readable : Tables → Type 0) (IsReadable : T → Type 0) (Needs : Tables → Type 0) (read : Result U StatementFault) → FailsOnlyByFault old new r Readable → Accepts r read IsReadable
      → ((t : Tables) → CanBeRead t → Readable t) → ((t : Tables) → Stands old.now t → AreKept t → Needs t → (x : T) → right t x → IsReadable x) → BlamesDisk old new read Needs
  blames_read Readable IsReadable Needs read fails accepts readable reads = record {
    limit = λ clean ours live. (looks.crash ours.0).limit;
    counts = λ clean ours live. (looks.crash ours.0).counts;
    refused = λ clean ours live unlimited t stands kept needs.
        read_so old new IsReadable r read live (fails clean unlimited t stands (readable t (kept_can_be_read old.now t stands kept).0))
        (if_ok r (looks.found clean t stands) (reads t stands kept needs)) accepts;
  }

-- ---- no call, and what is made of one

only_memory : {V : Type 0} (P : Type 0) (r : Result V StatementFault) → IsOkUnless r Memory → IfErr r (λ e. e ≡ Refused → P)
only_memory P (Ok y) so = tt
only_memory P (Err Memory) so = λ is. absurd cc
only_memory P (Err Refused) so = absurd cc

-- nothing is looked up
pub blames_none : {U : Type 0} (old : State) (r : Result U StatementFault) (Needs : Tables → Type 0) → ((t : Tables) → Stands old.now t → AreKept t → Needs t → IsOkUnless r Memory) → BlamesDisk old old r Needs
blames_none old r Needs says = record {
  limit = λ clean ours live. refl;
  counts = λ clean ours live. omega arith;
  refused = λ clean ours live unlimited t stands kept needs. only_memory (MoreFaults old.faults old.faults) r (says t stands kept needs);
}

-- it needs no more than this
pub blames_so : {U : Type 0} (old new : State) (r : Result U StatementFault) (Needs More : Tables → Type 0) → BlamesDisk old new r Needs → ((t : Tables) → Stands old.now t → AreKept t → More t → Needs t) → BlamesDisk old new r More
blames_so old new r Needs More one says = record {
  limit = one.limit;
  counts = one.counts;
  refused = λ clean ours live unlimited t stands kept more. one.refused clean ours live unlimited t stands kept (says t stands kept more);
}

-- an error that is handed on
pub blames_err : {U V : Type 0} (old new : State) (e : StatementFault) (r : Result V StatementFault) (Needs : Tables → Type 0) → r ≡ Err e → BlamesDisk {T = U} old new (Err e) Needs → BlamesDisk old new r Needs
blames_err {V = V} old new e r Needs is one = subst (λ (z : Result V StatementFault). BlamesDisk old new z Needs) (sym is) (record { limit = one.limit; counts = one.counts; refused = one.refused })

-- something is made of what was found
pub blames_made : {T U : Type 0} (old new : State) (x : T) (First : Tables → T → Type 0) → LooksUp old new (Ok x) First → (Needs : Tables → Type 0) → BlamesDisk old new (Ok x) Needs → (r : Result U StatementFault) (More : Tables → Type 0)
    → ((t : Tables) → Stands old.now t → AreKept t → More t → First t x → IsOkUnless r Memory) → BlamesDisk old new r More
blames_made old new x First one Needs early r More says = record {
  limit = early.limit;
  counts = early.counts;
  refused = λ clean ours live unlimited t stands kept more.
      only_memory (MoreFaults old.faults new.faults) r (says t stands kept more (one.found clean (one.works clean live) ours.1 t stands));
}

-- ---- one after another

worse : {U : Type 0} (a b c : ℕ) (q : Result U StatementFault) → a ≤ b → IfErr q (λ e. e ≡ Refused → MoreFaults b c) → IfErr q (λ e. e ≡ Refused → MoreFaults a c)
worse a b c (Ok y) up h = tt
worse a b c (Err e) up h = λ is. omega (arith, up, h is)

module _ {T U : Type 0} (a b c : State) (x : T) (First : Tables → T → Type 0) (one : LooksUp a b (Ok x) First) (Needs : Tables → Type 0) (early : BlamesDisk a b (Ok x) Needs)
    (r : Result U StatementFault) (Next : Tables → U → Type 0) (two : LooksUp b c r Next) (Second : Tables → Type 0) (late : BlamesDisk b c r Second) where
  before : HasCleanDisk c → HasCleanDisk b
  before clean = omega (arith, clean, two.clean)

  open_between : HasCleanDisk c → IsTrue a.is_open → IsTrue b.is_open
  open_between clean live = one.works (before clean) live

  same : HasCleanDisk c → IsOurs a → IsTrue a.is_open → b.now ≡ a.now
  same clean ours live = (one.rests (before clean) ours).now (open_between clean live)

  ours_between : HasCleanDisk c → IsOurs a → IsTrue a.is_open → IsOurs b
  ours_between clean ours live =
      let rests = one.rests (before clean) ours in
      let mid = open_between clean live in
      (ap (λ (d : Database). d.schema) (rests.now mid) ∙ ours.0, λ _. rests.now mid ∙ ours.1 live ∙ sym (rests.committed mid))

  pub blames_then : (More : Tables → Type 0) → ((t : Tables) → Stands a.now t → AreKept t → More t → First t x → Second t) → BlamesDisk a c r More
  blames_then More says = record {
    limit = λ clean ours live. late.limit clean (ours_between clean ours live) (open_between clean live) ∙ early.limit (before clean) ours live;
    counts = λ clean ours live. omega (arith, early.counts (before clean) ours live, late.counts clean (ours_between clean ours live) (open_between clean live));
    refused = λ clean ours live unlimited t stands kept more.
        let mid = open_between clean live in
        let found = one.found (before clean) mid ours.1 t stands in
        worse a.faults b.faults c.faults r (early.counts (before clean) ours live)
        (late.refused clean (ours_between clean ours live) mid (early.limit (before clean) ours live ∙ unlimited) t (subst (λ (d : Database). Stands d t) (sym (same clean ours live)) stands) kept (says t stands kept more found));
  }

-- ---- what is found

pub some_there : {A B : Type 0} (f : A → B) (o : Option A) (y : B) → option_map f o ≡ Some y → IsSome o
some_there f None y is = absurd cc
some_there f (Some a) y is = refl

-- there is a value, and whatever there is is such a value
pub some_and : {A : Type 0} (P : A → Type 0) (o : Option A) → IsSome o → IfSome o P → IsSomeAnd o P
some_and P None there each = absurd (true≢false (sym there))
some_and P (Some a) there each = each

-- the number of the last row, where one above it is not past 2^63
pub low_declaration : (found : Option DeclarationRow) → next_declaration (option_map declaration_in found) + 0 ≤ 2 ^ 63 → IfSome found (λ r. r.id < 2 ^ 63)
low_declaration None room = tt
low_declaration (Some r) room = let least : r.id + 1 + 0 ≤ 2 ^ 63 = room in let low : r.id < 2 ^ 63 = omega (arith, least) in low

pub low_correction : (found : Option CorrectionRow) → next_correction (option_map correction_in found) + 0 ≤ 2 ^ 63 → IfSome found (λ r. r.id < 2 ^ 63)
low_correction None room = tt
low_correction (Some r) room = let least : r.id + 1 + 0 ≤ 2 ^ 63 = room in let low : r.id < 2 ^ 63 = omega (arith, least) in low

pub low_lot : (found : Option LotRow) → next_lot (option_map lot_in found) + 0 ≤ 2 ^ 63 → IfSome found (λ r. r.id < 2 ^ 63)
low_lot None room = tt
low_lot (Some r) room = let least : r.id + 1 + 0 ≤ 2 ^ 63 = room in let low : r.id < 2 ^ 63 = omega (arith, least) in low

-- a row that is read has a last day that is, if it has one
pub day_read : (d : Device) → is_device (pos 0, d) ≡ true → is_maybe_day d.last_day ≡ true
day_read d read =
    let plant = second_of_both (is_act d.account) _ (second_of_both (reads (gsrn_reading d.gsrn)) _ read) in
    first_of_both (is_maybe_day d.last_day) _ (second_of_both (is_plant d.plant) _ plant)

-- the row of a device that has an accepted period has its last day
pub last_day_there : (P : DeviceRow → Type 0) (found : Option DeviceRow) → is_some (progress_in (option_map device_in found)).last_day ≡ true → IfSome found P → IsSomeAnd found (λ r. P r × IsSome (device_in r).last_day)
last_day_there P None there each = absurd (true≢false (sym there))
last_day_there P (Some r) there each = (each, sym (is_some-map day_of (device_in r).last_day) ∙ there)

-- a lot that the registry knows is stated by the row that is found by its key
states_so : (found : Option LotRow) (lot : LotFields) → option_map (λ l. lot_of l) (option_map lot_in found) ≡ Some lot → IfSome found (λ r. IsReadableLot (lot_in r)) → IsSomeAnd found (λ r. IsReadableLot (lot_in r) × (lot_of (lot_in r) ≡ lot))
states_so None lot is each = absurd cc
states_so (Some r) lot is each = let same : lot_of (lot_in r) ≡ lot = cc in (each, same)

pub lot_read : (lots : List Lot) (found : Option LotRow) (o : ℕ) (d text : List ℕ) (lot : LotFields) → o ≡ lot.origin → d ≡ lot.device → text ≡ day_text lot.first_day → IsDay lot.first_day
    → option_map lot_in found ≡ find (λ x. int_eq (pos x.origin) (pos o) && (bytes_eq x.device d && bytes_eq x.first_day text)) lots → get (known_lots lots) (key_of lot) ≡ Some lot
    → IfSome found (λ r. IsReadableLot (lot_in r)) → IsSomeAnd found (λ r. IsReadableLot (lot_in r) × (lot_of (lot_in r) ≡ lot))
lot_read lots found o d text lot origin device day valid right knows each =
    let test : Lot → Bool = λ x. int_eq (pos x.origin) (pos o) && (bytes_eq x.device d && bytes_eq x.first_day text) in
    let same : (l : Lot) → test l ≡ eq_by_cmp text_cmp (key_of lot) (key_of (lot_of l)) =
    λ l. (λ i. int_eq (pos l.origin) (pos (origin i)) && (bytes_eq l.device (device i) && bytes_eq l.first_day (day i))) ∙ lot_test l.origin l.device l.first_day lot.origin lot.device lot.first_day valid in
    states_so found lot (ap (option_map (λ l. lot_of l)) right ∙ sym (get-known nat_list_cmp_total known_lot (key_of lot) test same lots) ∙ knows) each

-- no element is such
pub no_such : {X : Type 0} (P : X → Type 0) (xs : List X) → All (λ x. ¬ P x) xs → Any P xs → ⊥
no_such P xs none (k, x, low, is, has) = none k x low (subst P (sym is) has)

-- a number is one alone
pub one_number : (a b : ℕ) (k : ℤ) → pos a ≡ k → pos b ≡ k → a ≡ b
one_number a b k first second = let same : pos a ≡ pos b = first ∙ sym second in cc

-- so few lots in, the next one has a number that a column keeps
pub low_next : (lots : List Lot) (next i count : ℕ) → i < count → HasRoom count lot_key lots → ((n : ℕ) → pos n ≡ next_key lot_key lots → next ≤ n + i) → next < 2 ^ 63
low_next lots next i count low room so_far =
    let n : ℕ = next_lot (option_map bare_lot (slice_get (reverse lots) 0)) in
    let below : next ≤ n + i = so_far n (next_lot_is lots) in
    let left : n + count ≤ 2 ^ 63 = room n (next_lot_is lots) in
    omega (arith, low, below, left)
