-- A declaration that is accepted can be answered, where its row and its lot's get numbers.
use Rattle.std.proofs.Common.{◌≡◌, ◌≤◌, ◌<◌, ◌+◌, ◌-◌, ◌^◌, ℕ, zero, suc, List, cond, IsSome, Option, Some, None, refl, ap, sym, subst, ◌∙◌, arith}
use Rattle.std.specs.Prelude.{string_bytes}
use Rattle.std.specs.FinMap.{get}
use Rattle.std.proofs.lemmas.Bool.{ne_eqb}
use Rattle.goo_types.specs.Day.{day_number}
use Rattle.goo_types.specs.Lot.{IsLot}
use Rattle.goo_types.specs.declared.command.Declare.{Declare}
use Rattle.goo_types.specs.declared.reply.Reply.{Reply}
use Rattle.goo_spec.specs.Declare.{range_of, with_declaration, earned, next_number, device_refusal, declare_refusal, declare_reply}
use Rattle.goo_spec.specs.Energy.{carry}
use Rattle.goo_spec.specs.State.{State, Device}
use Rattle.goo_spec.proofs.Allowed.{known_device, serials_left, lot_fits}
use Rattle.goo_spec.proofs.Mapping.{none_some}
use Rattle.goo_tables_rows.specs.Rows as row
use Rattle.goo_tables_rows.specs.Rows.{Tables, meta_in, lot_key, declaration_key}
use Rattle.goo_tables_rows.specs.declared.meta.MetaRow.{MetaRow}
use Rattle.goo_spec_tables.specs.Kept.{AreKept}
use Rattle.goo_spec_tables.specs.Readable.{is_meta}
use Rattle.goo_spec_tables.specs.States.{state_of}
use Rattle.goo_spec_tables.specs.Texts.{day_of}
use Rattle.goo_store_plans.specs.AtHand.{HasRoom}
use Rattle.goo_store_plans.specs.Declaring.{CanBeAnswered, IsWithinLimits, lot_stated, count_of}
use Rattle.goo_store_plans.specs.Found.{IsBasisOf}
use Rattle.goo_store_plans.specs.Standing.{IsStanding}
use Rattle.goo_store_plans.specs.declared.known_rows.KnownBasis.{KnownBasis}
use Rattle.goo_store_plans.specs.declared.standing.DeclarationBasis.{DeclarationBasis}

is_known : (s : State) (x : Declare) (o : Option Device) → device_refusal s x o ≡ None → IsSome o
is_known s x None none = none_some _ (sym none)
is_known s x (Some device) none = refl

-- so many numbers are counted so
counted : (n e : ℕ) → count_of (range_of n e) ≤ e
counted n zero = omega arith
counted n (suc k) = subst (λ b. count_of (cond b None (Some (record { first = n; last = n + suc k - 1 }))) ≤ suc k) (sym (ne_eqb (suc k) 0 (λ e. omega arith))) (omega arith)

carry_fits : (s : State) (device : List ℕ) → carry s device < 2 ^ 63
unfolding carry
carry_fits s device = omega arith

module _ (t : Tables) (kept : AreKept t) (caller : List ℕ) (x : Declare) (none : declare_refusal (state_of t) caller x ≡ None) (meta : MetaRow) (same : t.meta ≡ meta_in meta) where
  abbrev s : State
  s = state_of t

  accepted : device_refusal s x (get s.devices x.device) ≡ None
  accepted = known_device s caller x none

  serial_is : s.next_serial ≡ meta.next_serial
  unfolding state_of
  serial_is = ap (λ (m : row.Meta). m.next_serial) same

  today_is : s.today ≡ day_of (string_bytes meta.today)
  unfolding state_of
  today_is = ap (λ (m : row.Meta). day_of m.today) same

  lot_valid : (device : Device) → get s.devices x.device ≡ Some device → IsLot (lot_stated meta x device)
  lot_valid device is =
      let lot = lot_fits s caller x none device is in
      record {
        commissioned = lot.commissioned;
        rising = lot.rising;
        issued = subst (λ day. day_number x.last_day < day_number day) today_is lot.issued;
        month = lot.month;
      }

  within : HasRoom 1 declaration_key t.declarations → HasRoom 1 lot_key t.lots → (found : DeclarationBasis) → IsStanding t x.device found
      → IsWithinLimits meta x (carry (with_declaration s x) x.device) (range_of (next_number s) (earned s x)) found
  within declarations lots found standing = record {
    row = ap is_meta (sym same) ∙ kept.readable.meta;
    carry_fits = carry_fits (with_declaration s x) x.device;
    declaration_fits = let left = declarations found.number standing.number in omega (arith, left);
    lot_fits = let left = lots found.next_lot standing.next_lot in omega (arith, left);
    serial_fits = let left = serials_left s caller x none in let few = counted (next_number s) (earned s x) in omega (arith, left, few, serial_is);
    lot = lot_valid found.device standing.device;
  }

  pub can_be_answered : (basis : KnownBasis) → IsBasisOf basis t → HasRoom 1 declaration_key t.declarations → HasRoom 1 lot_key t.lots → (reply : Reply) → declare_reply s x ≡ reply → CanBeAnswered t basis meta x reply
  unfolding declare_reply
  can_be_answered basis is declarations lots reply states = record {
    carry = carry (with_declaration s x) x.device;
    issued = range_of (next_number s) (earned s x);
    reply_is = sym states;
    can = record {
      kept_is = is;
      standing = record {
        device = is_known s x (get s.devices x.device) accepted;
        declarations = λ n next. let left = declarations n next in omega (arith, left);
        lots = λ n next. let left = lots n next in omega (arith, left);
      };
      limits = within declarations lots;
    };
  }
