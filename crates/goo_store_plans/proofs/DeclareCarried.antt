-- An accepted declaration, carried out by changes.
use Rattle.std.proofs.Common.{◌≡◌, ◌≤◌, ◌==◌, inl, inr, ℕ, zero, suc, ◌+◌, ◌-◌, pos, List, [], ◌∷◌, ◌++◌, Bool, true, false, cond, length, Option, Some, None, refl, ap, sym, subst, ◌∙◌, arith}
use Rattle.std.specs.Prelude.{string_bytes, filter}
use Rattle.std.specs.FinMap.{get}
use Rattle.std.proofs.lemmas.Bool.{eqb-true, eq-eqb, false≢true}
use Rattle.sqlite_keyed.specs.Keyed.{next_key, has_key, get_by, insert_by}
use Rattle.sqlite_keyed.proofs.KeyedLemmas.{next_key_is_free}
use Rattle.sqlite_typed.specs.Tests.{bytes_eq}
use Rattle.goo_types.specs.Range.{Numbers, range_of}
use Rattle.goo_types.specs.declared.command.Command.TheVariants as command
use Rattle.goo_types.specs.declared.command.Declare.{Declare}
use Rattle.goo_types.specs.declared.reply.Reply.{Reply}
use Rattle.goo_types.specs.declared.reply.Reply.TheVariants.{Declared}
use Rattle.goo_types.specs.declared.request.Request.{Request}
use Rattle.goo_spec.specs.Declare.{with_declaration, earned, next_number, declare_refusal, declare_reply, with_issue}
use Rattle.goo_spec.specs.Energy as energy
use Rattle.goo_spec.specs.Lots.{key_of}
use Rattle.goo_spec.specs.State.{State}
use Rattle.goo_spec.specs.Step.{refusal, reply_to}
use Rattle.goo_spec.proofs.Again.{accepted_reply}
use Rattle.goo_spec.proofs.Stepping.{accepted_passes}
use Rattle.goo_tables_rows.specs.Once.{IsOnce}
use Rattle.goo_tables_rows.specs.Rows as row
use Rattle.goo_tables_rows.specs.Rows.{Tables, Lot, lot_key, lot_in, declaration_key, declaration_in}
use Rattle.goo_tables_rows.specs.declared.meta.MetaRow.{MetaRow}
use Rattle.goo_tables_accounts.specs.Changes as change
use Rattle.goo_tables_accounts.specs.declared.counters.CountersRow.{CountersRow}
use Rattle.goo_spec_tables.specs.Places.{lot_of}
use Rattle.goo_spec_tables.specs.Readable.{is_meta}
use Rattle.goo_spec_tables.specs.States.{state_of}
use Rattle.goo_spec_tables.specs.Texts.{day_of}
use Rattle.goo_store_plans.specs.Acted.{IsActed}
use Rattle.goo_store_plans.specs.Carrying.{CarriesOut}
use Rattle.goo_store_changes.specs.Changes.{made, made_all, IsFree, AreFree, HasRoom, HaveRoom}
use Rattle.goo_store_plans.specs.Declaring.{Begins, Issues, IsDue}
use Rattle.goo_store_plans.specs.LotNumbers.{AreJustWith}
use Rattle.goo_store_plans.specs.NewLots.{known_lots}
use Rattle.goo_store_plans.specs.Room.{HaveRowids}
use Rattle.goo_store_changes.specs.declared.table_change.TableChange.TheVariants.{AddDeclaration, AddLot, SetCounters}
use Rattle.goo_store_plans.specs.declared.gathered_lots.Gathered.{Gathered}
use Rattle.goo_store_plans.specs.declared.standing.DeclarationBasis.{DeclarationBasis}
use Rattle.goo_store_plans.proofs.ActsActed.{numbers}
use Rattle.goo_store_plans.proofs.DeclaringActed.{none_in_row, new_key, declaring_acted, issuing_acted}
use Rattle.goo_store_plans.proofs.FreeChanges.{all_for, free_lot}
use Rattle.goo_store_plans.proofs.InTurn.{first_in_turn, two_in_turn}
use Rattle.goo_store_plans.proofs.LotsAdded.{none_there}
use Rattle.goo_store_plans.proofs.Gathering.{with_more, with_none}
use Rattle.goo_store_plans.proofs.RoomChanges.{counters_room}
use Rattle.goo_store_plans.proofs.SmallRows.{progressed_kept, small_declaration, small_lot}

pub once_from : {X : Type 0} (xs : List X) → length xs ≤ 1 → IsOnce xs
once_from [] few = inl refl
once_from (x ∷ []) few = inr (x, refl)
once_from (x ∷ y ∷ zs) few = absurd (omega (arith, few))

-- how many certificates a reply states
abbrev ranged : ℕ → ℕ → Bool → Option Numbers
ranged n e b = cond b None (Some (record { first = n; last = n + e - 1 }))

none_issued : (n e : ℕ) (b : Bool) → (e == 0) ≡ b → ranged n e b ≡ None → b ≡ true
none_issued n e true is none = refl
none_issued n e false is none = absurd cc

some_issued : (n e : ℕ) (r : Numbers) (b : Bool) → (e == 0) ≡ b → ranged n e b ≡ Some r → (b ≡ false) × (r.last - r.first + 1 ≡ e)
some_issued n e r true is some = absurd cc
some_issued n e r false is some =
    let same : record { first = n; last = n + e - 1 } ≡ r = cc in
    let first : n ≡ r.first = ap (λ (x : Numbers). x.first) same in
    let last : n + e - 1 ≡ r.last = ap (λ (x : Numbers). x.last) same in
    let more : (e ≡ 0) → ⊥ = λ none. absurd (false≢true (sym is ∙ eq-eqb e 0 none)) in
    (refl, go e first last more)
  where
    go : (k : ℕ) → n ≡ r.first → n + k - 1 ≡ r.last → ((k ≡ 0) → ⊥) → r.last - r.first + 1 ≡ k
    go zero first last more = absurd (more refl)
    go (suc k) first last more = omega (arith, first, last)

module _ (t : Tables) (q : Request) (reply : Reply) (meta : MetaRow) (x : Declare) (carry : ℕ) (issued : Option Numbers) (found : DeclarationBasis) (due : IsDue t q reply meta x carry issued found)
    (first : Gathered) (begins : Begins x carry found first) where
  abbrev s : State
  s = state_of t

  abbrev d : row.Declaration
  d = declaration_in begins.row

  refused : declare_refusal s q.caller x ≡ None
  refused = subst (λ c. refusal s q.caller c ≡ None) due.command_is (accepted_passes s q reply due.accepted.accepted)

  states_reply : declare_reply s x ≡ Declared carry issued
  states_reply = subst (λ c. reply_to s c ≡ reply) due.command_is (accepted_reply s q reply due.accepted.accepted) ∙ due.reply_is

  both_same : (a b : ℕ) (m n : Option Numbers) → Declared a m ≡ Declared b n → (a ≡ b) × (m ≡ n)
  both_same a b m n is = (cc, cc)

  parts : (energy.carry (with_declaration s x) x.device ≡ carry) × (range_of (next_number s) (earned s x) ≡ issued)
  unfolding declare_reply
  parts = both_same (energy.carry (with_declaration s x) x.device) carry (range_of (next_number s) (earned s x)) issued states_reply

  numbered : declaration_key d ≡ next_key declaration_key t.declarations
  numbered = ap pos begins.id ∙ due.standing.number

  -- the declaration comes where neither its number nor its first day is taken
  declaration_free : IsFree t (AddDeclaration begins.row)
  declaration_free = (
    none_there (get_by declaration_key t.declarations (pos begins.row.id)) (ap (has_key declaration_key t.declarations) numbered ∙ next_key_is_free declaration_key t.declarations due.declarations_rise),
    none_in_row t due.accepted.kept q.caller x found.device due.standing.device refused d begins.states,
  )

  abbrev declared : Tables
  declared = change.with_progress (change.with_declaration t d) x.device begins.sets.last_day carry

  once : IsOnce (filter (λ k. bytes_eq k.1.gsrn x.device) t.devices)
  once = once_from (filter (λ k. bytes_eq k.1.gsrn x.device) t.devices) (due.accepted.kept.devices x.device)

  abbrev counted : CountersRow
  counted = numbers (t.meta.next_serial + earned s x) t.meta.next_account t.meta.next_cancellation t.meta.next_withdrawal t.meta.next_notice

  counted_is : (count : ℕ) → count ≡ earned s x → numbers (meta.next_serial + count) meta.next_account meta.next_cancellation meta.next_withdrawal meta.next_notice ≡ counted
  counted_is count is = λ i. let m : row.Meta = sym due.meta_is i in numbers (m.next_serial + is i) m.next_account m.next_cancellation m.next_withdrawal m.next_notice

  -- the device's row has room for its progress, and the registry's for what is counted then
  progress_room : HaveRowids t → HasRoom (change.with_declaration t d) begins.progress
  progress_room can = begins.sets.room (change.with_declaration t d) (progressed_kept begins.sets.last_day carry begins.sets.ends_read t.devices due.accepted.kept.readable.devices can.devices_there)

  meta_read : is_meta t.meta ≡ true
  meta_read = due.accepted.kept.readable.meta

  -- no certificate is issued
  none_carried : (g1 g2 : Gathered) (count : ℕ) (counters : CountersRow) → issued ≡ None → g1 ≡ first → count ≡ 0 → counters ≡ numbers (meta.next_serial + count) meta.next_account meta.next_cancellation meta.next_withdrawal meta.next_notice
      → g2.changes.items ≡ g1.changes.items ++ SetCounters counters ∷ [] → g2.added.items ≡ g1.added.items → CarriesOut t (command.Declare x) g2
  none_carried g1 g2 count counters none same zero_is counters_are changes added =
      let nothing : (earned s x == 0) ≡ true = none_issued (next_number s) (earned s x) (earned s x == 0) refl (parts.1 ∙ none) in
      let count_is : count ≡ earned s x = zero_is ∙ sym (eqb-true (earned s x) 0 nothing) in
      let changes_are : g2.changes.items ≡ AddDeclaration begins.row ∷ begins.progress ∷ SetCounters counters ∷ [] =
      changes ∙ ap (λ (g : Gathered). g.changes.items ++ SetCounters counters ∷ []) same ∙ ap (λ cs. cs ++ SetCounters counters ∷ []) begins.changes in
      let all_made : made_all t g2.changes.items ≡ change.with_counters declared counted =
      ap (made_all t) changes_are ∙ (λ i. change.with_counters (begins.sets.made_is (change.with_declaration t d) i) ((counters_are ∙ counted_is count count_is) i)) in
      let free : AreFree t g2.changes.items =
      subst (AreFree t) (sym changes_are)
      (first_in_turn IsFree t (AddDeclaration begins.row) (begins.progress ∷ SetCounters counters ∷ []) declaration_free
      (two_in_turn IsFree (change.with_declaration t d) begins.progress (SetCounters counters) (begins.sets.free (change.with_declaration t d) once) tt)) in record {
        for = all_for t g2.changes.items free;
        free = free;
        room = λ can.
            subst (HaveRoom t) (sym changes_are)
            (first_in_turn HasRoom t (AddDeclaration begins.row) (begins.progress ∷ SetCounters counters ∷ []) (small_declaration d begins.reads_row)
            (two_in_turn HasRoom (change.with_declaration t d) begins.progress (SetCounters counters) (progress_room can)
            (subst (λ u. HasRoom u (SetCounters counters)) (sym (begins.sets.made_is (change.with_declaration t d))) (counters_room declared counters meta_read))));
        acted =
            subst (λ u. IsActed t u (with_issue s x)) (sym all_made)
            (declaring_acted t due.accepted.kept q.caller x found.device due.standing.device refused d begins.states begins.reads_row numbered due.declarations_rise begins.sets.last_day begins.sets.ends begins.sets.ends_read carry (sym parts.0) nothing);
        lots =
            subst (λ ls. AreJustWith t.lots g2.added.items ls) (sym (ap (λ (u : Tables). u.lots) all_made))
            (subst (λ xs. AreJustWith t.lots xs t.lots) (sym (added ∙ ap (λ (g : Gathered). g.added.items) same ∙ begins.added)) (with_none t.lots));
      }

  own_is : s.own ≡ meta.code
  unfolding state_of
  own_is = ap (λ (m : row.Meta). m.code) due.meta_is

  today_is : s.today ≡ day_of (string_bytes meta.today)
  unfolding state_of
  today_is = ap (λ (m : row.Meta). day_of m.today) due.meta_is

  -- certificates are issued, with their lot
  some_carried : (r : Numbers) (g1 g2 : Gathered) (count : ℕ) (counters : CountersRow) → issued ≡ Some r → Issues meta x found (Some r) first g1 count
      → counters ≡ numbers (meta.next_serial + count) meta.next_account meta.next_cancellation meta.next_withdrawal meta.next_notice → g2.changes.items ≡ g1.changes.items ++ SetCounters counters ∷ [] → g2.added.items ≡ g1.added.items
      → CarriesOut t (command.Declare x) g2
  unfolding state_of
  some_carried r g1 g2 count counters some issues counters_are changes added =
      let lot = issues.0 in
      let adds = issues.1 in
      let l : Lot = lot_in adds.row in
      let made_some = some_issued (next_number s) (earned s x) r (earned s x == 0) refl (parts.1 ∙ some) in
      let count_is : count ≡ earned s x = issues.2 ∙ made_some.1 in
      let fresh : has_key lot_key t.lots (lot_key l) ≡ false = ap (has_key lot_key t.lots) (ap pos (adds.id ∙ begins.next) ∙ due.standing.next_lot) ∙ next_key_is_free lot_key t.lots due.lots_rise in
      let unknown : get (known_lots t.lots) (key_of (lot_of l)) ≡ None = ap (λ k. get s.lots (key_of k)) (adds.states ∙ issues.3 s own_is today_is) ∙ new_key t due.accepted.kept q.caller x found.device due.standing.device refused in
      let changes_are : g2.changes.items ≡ AddDeclaration begins.row ∷ begins.progress ∷ AddLot adds.row ∷ SetCounters counters ∷ [] =
      changes ∙ ap (λ cs. cs ++ SetCounters counters ∷ []) (adds.changes ∙ ap (λ cs. cs ++ AddLot adds.row ∷ []) begins.changes) in
      let all_made : made_all t g2.changes.items ≡ change.with_counters (change.with_lot declared l) counted =
      ap (made_all t) changes_are ∙ (λ i. change.with_counters (change.with_lot (begins.sets.made_is (change.with_declaration t d) i) l) ((counters_are ∙ counted_is count count_is) i)) in
      let free : AreFree t g2.changes.items =
      subst (AreFree t) (sym changes_are)
      (first_in_turn IsFree t (AddDeclaration begins.row) (begins.progress ∷ AddLot adds.row ∷ SetCounters counters ∷ []) declaration_free
      (first_in_turn IsFree (change.with_declaration t d) begins.progress (AddLot adds.row ∷ SetCounters counters ∷ []) (begins.sets.free (change.with_declaration t d) once)
      (two_in_turn IsFree (made (change.with_declaration t d) begins.progress) (AddLot adds.row) (SetCounters counters)
      (subst (λ u. IsFree u (AddLot adds.row)) (sym (begins.sets.made_is (change.with_declaration t d))) (free_lot declared adds.row due.accepted.kept.carried_lots_there fresh unknown)) tt))) in record {
        for = all_for t g2.changes.items free;
        free = free;
        room = λ can.
            subst (HaveRoom t) (sym changes_are)
            (first_in_turn HasRoom t (AddDeclaration begins.row) (begins.progress ∷ AddLot adds.row ∷ SetCounters counters ∷ []) (small_declaration d begins.reads_row)
            (first_in_turn HasRoom (change.with_declaration t d) begins.progress (AddLot adds.row ∷ SetCounters counters ∷ []) (progress_room can)
            (two_in_turn HasRoom (made (change.with_declaration t d) begins.progress) (AddLot adds.row) (SetCounters counters) (small_lot l adds.reads adds.kept)
            (subst (λ u. HasRoom (made u (AddLot adds.row)) (SetCounters counters)) (sym (begins.sets.made_is (change.with_declaration t d))) (counters_room (change.with_lot declared l) counters meta_read)))));
        acted =
            subst (λ u. IsActed t u (with_issue s x)) (sym all_made)
            (issuing_acted t due.accepted.kept q.caller x found.device due.standing.device refused d begins.states begins.reads_row numbered due.declarations_rise begins.sets.last_day begins.sets.ends begins.sets.ends_read carry (sym parts.0)
            made_some.0 l (adds.states ∙ issues.3 s own_is today_is) fresh adds.reads adds.kept);
        lots =
            subst (λ ls. AreJustWith t.lots g2.added.items ls) (sym (ap (λ (u : Tables). u.lots) all_made))
            (subst (λ xs. AreJustWith t.lots xs (insert_by lot_key t.lots l)) (sym (added ∙ adds.added ∙ ap (λ xs. xs ++ record { number = first.next; lot = lot } ∷ []) begins.added))
            (with_more t.lots l fresh t.lots [] (record { number = first.next; lot = lot }) (with_none t.lots) adds.id adds.states));
      }

  pub declare_carried : (o : Option Numbers) → issued ≡ o → (g1 g2 : Gathered) (count : ℕ) (counters : CountersRow) → Issues meta x found o first g1 count
      → counters ≡ numbers (meta.next_serial + count) meta.next_account meta.next_cancellation meta.next_withdrawal meta.next_notice → g2.changes.items ≡ g1.changes.items ++ SetCounters counters ∷ [] → g2.added.items ≡ g1.added.items
      → CarriesOut t q.command g2
  declare_carried None is g1 g2 count counters issues are changes added = subst (λ c. CarriesOut t c g2) (sym due.command_is) (none_carried g1 g2 count counters is issues.0 issues.1 are changes added)
  declare_carried (Some r) is g1 g2 count counters issues are changes added = subst (λ c. CarriesOut t c g2) (sym due.command_is) (some_carried r g1 g2 count counters is issues are changes added)
