-- The four things that a step does to a registry, as far as certificates and notices are concerned.
use Rattle.std.specs.Prelude.{◌≡◌, ℕ, ◌+◌, ◌<◌, ◌≤◌, ◌==◌, ◌&&◌, ◌||◌, Bool, true, false, cond, Option, Some}
use Rattle.std.specs.FinMap.{get, contains_key}
use Rattle.goo_types.specs.Number.{code_of, serial_of}
use Rattle.goo_types.specs.Notice.{NoticeContents}
use Rattle.goo_types.specs.declared.lot_fields.LotFields.{LotFields}
use Rattle.goo_spec.specs.State.{State}
use Rattle.goo_spec.specs.Import.{names}
use Rattle.goo_spec_one_home.specs.World.{is_home, lot_of, HaveLot, kept_notice}

-- whether a registry has accepted a notice of that sender and number
abbrev pub has : State → ℕ → ℕ → Bool
has s sender number = contains_key s.arrived (sender, number)

abbrev pub is_called : NoticeContents → ℕ → ℕ → Bool
is_called m sender number = (sender == m.sender) && (number == m.number)

-- no certificate comes or goes
pub record IsQuiet (s t : State) : Type 0 where
  pub own : t.own ≡ s.own
  pub serial : t.next_serial ≡ s.next_serial
  pub notice : t.next_notice ≡ s.next_notice
  pub arrived : t.arrived ≡ s.arrived
  pub sent : t.sent ≡ s.sent
  pub home : (n : ℕ) → is_home (get t.at n) ≡ is_home (get s.at n)
  pub lot : (n : ℕ) → lot_of (get t.at n) ≡ lot_of (get s.at n)

-- new certificates are issued
pub record IsIssue (s t : State) (new : ℕ → Bool) : Type 0 where
  pub own : t.own ≡ s.own
  pub notice : t.next_notice ≡ s.next_notice
  pub arrived : t.arrived ≡ s.arrived
  pub sent : t.sent ≡ s.sent
  pub serial : s.next_serial ≤ t.next_serial
  pub code : (n : ℕ) → new n ≡ true → code_of n ≡ s.own
  pub low : (n : ℕ) → new n ≡ true → s.next_serial ≤ serial_of n
  pub high : (n : ℕ) → new n ≡ true → serial_of n < t.next_serial
  pub home : (n : ℕ) → new n ≡ true → is_home (get t.at n) ≡ true
  pub other : (n : ℕ) → new n ≡ false → get t.at n ≡ get s.at n

-- certificates at home leave with a notice
pub record IsSend (s t : State) (m : NoticeContents) : Type 0 where
  pub own : t.own ≡ s.own
  pub serial : t.next_serial ≡ s.next_serial
  pub notice : t.next_notice ≡ s.next_notice + 1
  pub arrived : t.arrived ≡ s.arrived
  pub sent : (k : ℕ) → kept_notice t k ≡ cond (k == s.next_notice) (Some m) (kept_notice s k)
  pub sender : m.sender ≡ s.own
  pub number : m.number ≡ s.next_notice
  pub was : (n : ℕ) → names m n ≡ true → is_home (get s.at n) ≡ true
  pub gone : (n : ℕ) → names m n ≡ true → is_home (get t.at n) ≡ false
  pub other : (n : ℕ) → names m n ≡ false → is_home (get t.at n) ≡ is_home (get s.at n)
  pub lot : (n : ℕ) → lot_of (get t.at n) ≡ lot_of (get s.at n)
  pub lots : (n : ℕ) → HaveLot (lot_of (get s.at n)) n m.parts

-- certificates that aren't at home come with a notice
pub record IsTake (s t : State) (m : NoticeContents) : Type 0 where
  pub own : t.own ≡ s.own
  pub serial : t.next_serial ≡ s.next_serial
  pub notice : t.next_notice ≡ s.next_notice
  pub sent : t.sent ≡ s.sent
  pub addressee : m.addressee ≡ s.own
  pub new : has s m.sender m.number ≡ false
  pub arrived : (sender number : ℕ) → has t sender number ≡ (is_called m sender number || has s sender number)
  pub away : (n : ℕ) → names m n ≡ true → is_home (get s.at n) ≡ false
  pub came : (n : ℕ) → names m n ≡ true → is_home (get t.at n) ≡ true
  pub other : (n : ℕ) → names m n ≡ false → get t.at n ≡ get s.at n
  pub lot : (n : ℕ) (lot : Option LotFields) → names m n ≡ true → HaveLot lot n m.parts → lot_of (get t.at n) ≡ lot
