-- Registry 9 of the worked world: from its creation to the import of the notice.
use Rattle.std.proofs.Common.{◌≡◌, [], ◌∷◌, Some, None, refl}
use Rattle.std.specs.Prelude.{codes}
use Rattle.std.specs.Cmp.{nat_cmp_total}
use Rattle.std.specs.Cmp.Lexicographic.{nat_list_cmp_total}
use Rattle.std.specs.FinMap.{get, insert, empty, get-empty}
use Rattle.goo_types.specs.Day.{day_number}
use Rattle.jiff_core.specs.Calendar.{day_count, days_of_years, days_of_months}
use Rattle.goo_types.specs.declared.place.Place.TheVariants.{Held}
use Rattle.goo_types.specs.declared.command.Command.TheVariants.{OpenHolder, OpenAccount, AddPeer, Import}
use Rattle.goo_types.specs.declared.request.Request.{Request}
use Rattle.goo_types.specs.declared.reply.Reply.TheVariants as reply
use Rattle.goo_types.specs.declared.outcome.Outcome.TheVariants.{Accepted}
use Rattle.goo_spec.specs.Days.{is_over}
use Rattle.goo_spec.specs.Lots.{key_of}
use Rattle.goo_spec.specs.State.{State, notice_cmp}
use Rattle.goo_spec.specs.Checks.{issuer}
use Rattle.goo_spec.specs.OpenHolder.{open_holder_refusal, open_holder_reply, with_holder}
use Rattle.goo_spec.specs.OpenAccount.{open_account_refusal, open_account_reply, with_account}
use Rattle.goo_spec.specs.AddPeer.{add_peer_refusal, add_peer_reply, with_peer}
use Rattle.goo_spec.specs.Import.{import_refusal, import_repeats, import_reply, with_import}
use Rattle.goo_spec.specs.Step.{accept}
use Rattle.goo_spec.proofs.Keys.{notices_total}
use Rattle.goo_spec.proofs.Mapping.{get_set}
use Rattle.goo_spec.proofs.ExampleRegistry.{volt, account_of_holder}
use Rattle.goo_spec.proofs.ExampleKeys.{sends}
use Rattle.goo_spec_one_home.proofs.ExampleSender.{receipts_of, new_key, fresh, Steps, january_lot, notice}

-- ---- VOLT becomes a holder

abbrev pub opens_volt : Request
opens_volt = sends issuer (codes "1") (OpenHolder (record { holder = volt; name = codes "Volt" }))

abbrev pub with_volt : State
with_volt = record (fresh 9) { holders = insert empty volt (codes "Volt"); receipts = receipts_of ((opens_volt, reply.Done) ∷ []) }

passes_holder : open_holder_refusal (fresh 9) issuer (record { holder = volt; name = codes "Volt" }) ≡ None
unfolding open_holder_refusal
passes_holder = let none : get (fresh 9).holders volt ≡ None = get-empty _ volt in rw none refl

pub opened_volt : Steps (fresh 9) opens_volt (Accepted reply.Done) with_volt
unfolding open_holder_reply accept with_holder
opened_volt = record { answer = rw (new_key (issuer, codes "1") [] refl, passes_holder) refl; leaves = refl }

-- ---- and gets account 1

abbrev pub opens_account_9 : Request
opens_account_9 = sends issuer (codes "2") (OpenAccount (record { holder = volt }))

abbrev pub with_account_9 : State
with_account_9 = record with_volt {
  accounts = insert empty 1 (account_of_holder volt);
  next_account = 2;
  receipts = receipts_of ((opens_account_9, reply.Account 1) ∷ (opens_volt, reply.Done) ∷ []);
}

passes_account : open_account_refusal with_volt issuer (record { holder = volt }) ≡ None
unfolding open_account_refusal
passes_account = let there : get with_volt.holders volt ≡ Some (codes "Volt") = get_set nat_list_cmp_total empty volt (codes "Volt") in rw there refl

pub opened_account_9 : Steps with_volt opens_account_9 (Accepted (reply.Account 1)) with_account_9
unfolding open_account_reply accept with_account
opened_account_9 = record { answer = rw (new_key (issuer, codes "2") ((opens_volt, reply.Done) ∷ []) refl, passes_account) refl; leaves = refl }

-- ---- registry 7 becomes a peer

abbrev pub adds_seven : Request
adds_seven = sends issuer (codes "3") (AddPeer (record { peer = 7 }))

abbrev pub with_seven : State
with_seven = record with_account_9 {
  peers = insert empty 7 tt;
  receipts = receipts_of ((adds_seven, reply.Done) ∷ (opens_account_9, reply.Account 1) ∷ (opens_volt, reply.Done) ∷ []);
}

passes_peer : add_peer_refusal with_account_9 issuer (record { peer = 7 }) ≡ None
unfolding add_peer_refusal
passes_peer = let none : get with_account_9.peers 7 ≡ None = get-empty _ 7 in rw none refl

pub added_seven : Steps with_account_9 adds_seven (Accepted reply.Done) with_seven
unfolding add_peer_reply accept with_peer
added_seven = record { answer = rw (new_key (issuer, codes "3") ((opens_account_9, reply.Account 1) ∷ (opens_volt, reply.Done) ∷ []) refl, passes_peer) refl; leaves = refl }

-- ---- and its notice comes

abbrev pub imports : Request
imports = sends issuer (codes "4") (Import (record { notice = notice }))

abbrev pub with_imported : State
with_imported = record with_seven {
  at = insert empty 7000000000001 (january_lot, Held 1);
  lots = insert empty (key_of january_lot) january_lot;
  arrived = insert empty (7, 1) notice;
  receipts = receipts_of ((imports, reply.Imported 1) ∷ (adds_seven, reply.Done) ∷ (opens_account_9, reply.Account 1) ∷ (opens_volt, reply.Done) ∷ []);
}

pub not_there : get with_seven.at 7000000000001 ≡ None
not_there = get-empty _ 7000000000001

pub none_arrived : get with_seven.arrived (7, 1) ≡ None
none_arrived = get-empty notice_cmp (7, 1)

account_1 : get with_seven.accounts 1 ≡ Some (account_of_holder volt)
account_1 = get_set nat_cmp_total empty 1 (account_of_holder volt)

peer_7 : get with_seven.peers 7 ≡ Some tt
peer_7 = get_set nat_cmp_total empty 7 tt

no_lot : get with_seven.lots (key_of january_lot) ≡ None
no_lot = get-empty _ (key_of january_lot)

passes_import : import_refusal with_seven issuer (record { notice = notice }) ≡ None
unfolding import_refusal is_over day_number day_count days_of_years days_of_months
passes_import = rw (peer_7, none_arrived, account_1, not_there, no_lot) refl

new_import : import_repeats with_seven issuer (record { notice = notice }) ≡ None
unfolding import_repeats
new_import = rw (peer_7, none_arrived) refl

replies_import : import_reply with_seven (record { notice = notice }) ≡ reply.Imported 1
unfolding import_reply
replies_import = refl

pub imported : Steps with_seven imports (Accepted (reply.Imported 1)) with_imported
unfolding accept with_import
imported = record {
  answer = rw (new_key (issuer, codes "4") ((adds_seven, reply.Done) ∷ (opens_account_9, reply.Account 1) ∷ (opens_volt, reply.Done) ∷ []) refl, new_import, passes_import, replies_import) refl;
  leaves = rw replies_import refl;
}

pub there : get with_imported.at 7000000000001 ≡ Some (january_lot, Held 1)
there = get_set nat_cmp_total empty 7000000000001 (january_lot, Held 1)

pub arrived : get with_imported.arrived (7, 1) ≡ Some notice
arrived = get_set notices_total empty (7, 1) notice
