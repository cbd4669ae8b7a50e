-- An accepted import, carried out by changes that put its lots and its notice in.
use Rattle.std.proofs.Common.{◌≡◌, ℤ, pos, true, List, [], ◌∷◌, ◌++◌, append-nil, map, fold, Option, Some, None, refl, ap, sym, subst, ◌∙◌}
use Rattle.std.specs.FinMap.{get}
use Rattle.std.proofs.lemmas.List.Sums.{fold-append}
use Rattle.sqlite_keyed.specs.Keyed.{IsKeyedBy, next_key}
use Rattle.goo_types.specs.Notice.{IsWhole}
use Rattle.goo_types.specs.declared.command.Command.TheVariants.{Import}
use Rattle.goo_types.specs.declared.command.Import as importing
use Rattle.goo_types.specs.declared.outcome.Outcome.TheVariants.{Accepted}
use Rattle.goo_types.specs.declared.refusal.Refusal.{Refusal}
use Rattle.goo_types.specs.declared.reply.Reply.{Reply}
use Rattle.goo_types.specs.declared.request.Request.{Request}
use Rattle.goo_spec.specs.Import.{import_refusal, import_repeats, with_import}
use Rattle.goo_spec.specs.State.{State}
use Rattle.goo_spec.specs.Step.{refusal, reply_to, repeats, fresh_outcome}
use Rattle.goo_spec.proofs.Stepping.{accepted_passes, not_kept}
use Rattle.goo_tables_rows.specs.Refused.{HasRoomFor}
use Rattle.goo_tables_rows.specs.Rows.{Tables, Lot, Kept, NoticeIn, kept_key, lot_in, notice_in_in, notice_in_row}
use Rattle.goo_tables_rows.specs.declared.notice_in.NoticeInRow.{NoticeInRow}
use Rattle.goo_tables_accounts.specs.Changes.{with_lot, with_notice_in}
use Rattle.goo_spec_tables.specs.Readable.{is_notice_in}
use Rattle.goo_spec_tables.specs.Records.{arrived_of}
use Rattle.goo_spec_tables.specs.States.{state_of, known_arrival}
use Rattle.goo_store_plans.specs.Acted.{IsActed}
use Rattle.goo_store_plans.specs.Carrying.{CarriesOut, IsAccepted}
use Rattle.goo_store_changes.specs.Changes.{made, made_all, IsFree, AreFree, HasRoom, HaveRoom}
use Rattle.goo_store_plans.specs.GatheredLots.{ArePutIn}
use Rattle.goo_store_plans.specs.LotNumbers.{AreJustWith}
use Rattle.goo_store_plans.specs.LotRows.{with_rows}
use Rattle.goo_store_plans.specs.NewLots.{AreNewLots}
use Rattle.goo_store_plans.specs.Room.{HaveRowids}
use Rattle.goo_store_changes.specs.declared.table_change.TableChange.TheVariants.{AddLot, AddNoticeIn}
use Rattle.goo_store_plans.specs.declared.gathered_lots.Gathered.{Gathered}
use Rattle.goo_store_plans.proofs.FreeChanges.{all_for, no_notice, free_lots}
use Rattle.goo_store_plans.proofs.ImportingActed.{absent, importing_acted, lots_made, lots_put}
use Rattle.goo_store_plans.proofs.InTurn.{one_in_turn, both_in_turn, always_in_turn}
use Rattle.goo_store_plans.proofs.RoomChanges.{lots_room}
use Rattle.goo_store_plans.proofs.SmallRows.{small_notice_in}

lots_after : (new : List Lot) (t : Tables) → (fold with_lot t new).lots ≡ with_rows t.lots new
lots_after [] t = refl
lots_after (l ∷ new) t = lots_after new (with_lot t l)

not_again : (again : Option Reply) (o : Option Refusal) (r r' : Reply) → fresh_outcome again o r ≡ Accepted r' → again ≡ None
not_again (Some kept) o r r' e = absurd (cc)
not_again None o r r' e = refl

module _ (t : Tables) (x : importing.Import) (q : Request) (reply : Reply) (is : q.command ≡ Import x) (it : IsAccepted t q reply) (whole : IsWhole x.notice) (rise : IsKeyedBy kept_key t.notices_in)
    (g : Gathered) (put : ArePutIn t.lots x.notice.parts [] g) (n : NoticeInRow) (states : (k : ℤ) → known_arrival (k, notice_in_in n) ≡ ((x.notice.sender, x.notice.number), x.notice)) (reads : (k : ℤ) → is_notice_in (k, notice_in_in n) ≡ true)
    (after : Gathered) (changes : after.changes.items ≡ g.changes.items ++ AddNoticeIn n ∷ []) (added : after.added.items ≡ g.added.items) where
  abbrev s : State
  s = state_of t

  abbrev new : List Lot
  new = map lot_in put.rows

  lots : AreNewLots t.lots x.notice.parts new
  lots = subst (AreNewLots t.lots x.notice.parts) (append-nil new) (put.gathered.done [] refl)

  accepted : import_refusal s q.caller x ≡ None
  accepted = subst (λ c. refusal s q.caller c ≡ None) is (accepted_passes s q reply it.accepted)

  new_one : import_repeats s q.caller x ≡ None
  new_one =
      let fresh = fresh_outcome (repeats s q.caller q.command) (refusal s q.caller q.command) (reply_to s q.command) in
      subst (λ c. repeats s q.caller c ≡ None) is
      (not_again (repeats s q.caller q.command) (refusal s q.caller q.command) (reply_to s q.command) reply (not_kept (get s.receipts (q.caller, q.key)) q.command fresh reply it.accepted))

  changes_are : after.changes.items ≡ map (λ r. AddLot r) put.rows ++ AddNoticeIn n ∷ []
  changes_are = changes ∙ ap (λ cs. cs ++ AddNoticeIn n ∷ []) put.changes

  all_made : made_all t after.changes.items ≡ with_notice_in (fold with_lot t new) (notice_in_in n)
  all_made =
      ap (made_all t) changes_are ∙ fold-append made t (map (λ r. AddLot r) put.rows) (AddNoticeIn n ∷ [])
      ∙ ap (λ u. with_notice_in u (notice_in_in n)) (lots_made put.rows t)

  notices_same : (made_all t (map (λ r. AddLot r) put.rows)).notices_in ≡ t.notices_in
  notices_same = ap (λ (u : Tables). u.notices_in) (lots_made put.rows t ∙ lots_put new t)

  -- the lots come where they aren't known, and the notice where it hasn't arrived
  all_free : AreFree t after.changes.items
  unfolding state_of
  all_free =
      let front = map (λ r. AddLot r) put.rows in
      let i = notice_in_in n in
      let none : get (state_of t).arrived (x.notice.sender, x.notice.number) ≡ None = absent t it.kept q.caller x whole accepted new_one new lots i states reads rise in
      let missing : IsFree t (AddNoticeIn n) = no_notice (λ (k : Kept NoticeIn). arrived_of k.1) (λ k. k.1.sender) (λ k. k.1.number) i.sender i.number t.notices_in (ap (λ e. get (state_of t).arrived e.0) (states (pos 0)) ∙ none) in
      subst (AreFree t) (sym changes_are)
      (both_in_turn IsFree t front (AddNoticeIn n ∷ []) (free_lots x.notice.parts put.rows t it.kept.carried_lots_there lots)
      (one_in_turn IsFree (made_all t front) (AddNoticeIn n) (subst (λ xs. IsFree (record t { notices_in = xs }) (AddNoticeIn n)) (sym notices_same) missing)))

  -- and have room, where rowids are left
  all_room : HaveRowids t → HaveRoom t after.changes.items
  all_room can =
      let front = map (λ r. AddLot r) put.rows in
      let i = notice_in_in n in
      let key = next_key kept_key t.notices_in in
      let kept : HasRoomFor notice_in_row t.notices_in i = (small_notice_in (key, i) (reads key), can.notices_in) in
      subst (HaveRoom t) (sym changes_are)
      (both_in_turn HasRoom t front (AddNoticeIn n ∷ []) (always_in_turn HasRoom t front (lots_room x.notice.parts put.rows t.lots lots))
      (one_in_turn HasRoom (made_all t front) (AddNoticeIn n) (subst (λ xs. HasRoomFor notice_in_row xs i) (sym notices_same) kept)))

  pub import_carried : CarriesOut t q.command after
  import_carried = subst (λ c. CarriesOut t c after) (sym is) (record {
    for = all_for t after.changes.items all_free;
    free = all_free;
    room = all_room;
    acted = subst (λ u. IsActed t u (with_import s x)) (sym all_made) (importing_acted t it.kept q.caller x whole accepted new_one new lots (notice_in_in n) states reads rise);
    lots =
        subst (λ xs. AreJustWith t.lots xs (made_all t after.changes.items).lots) (sym added)
        (subst (AreJustWith t.lots g.added.items) (sym (ap (λ (u : Tables). u.lots) all_made ∙ lots_after new t)) put.gathered.numbers);
  })
