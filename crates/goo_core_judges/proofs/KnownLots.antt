-- The lots of a plan's edits are known once its request is accepted.
use Rattle.std.proofs.Common.{◌≡◌, ◌∙◌, ℕ, List, [], ◌∷◌, Option, Some, None, refl, sym, ap, subst, ⊎_elim}
use Rattle.std.specs.FinMap.{get}
use Rattle.std.proofs.lemmas.List.Elements.{All-nil, All-cons}
use Rattle.goo_types.specs.Obeys.{Obeys}
use Rattle.goo_types.specs.Piece.{Label, at_of}
use Rattle.goo_types.specs.declared.lot_fields.LotFields.{LotFields}
use Rattle.goo_types.specs.declared.outcome.Outcome.TheVariants.{Accepted}
use Rattle.goo_types.specs.declared.piece.Piece.{Piece}
use Rattle.goo_types.specs.declared.reply.Reply.{Reply}
use Rattle.goo_types.specs.declared.request.Request.{Request}
use Rattle.goo_spec.specs.Lots.{lot_in, key_of}
use Rattle.goo_spec.specs.Obeys.{AllObey}
use Rattle.goo_spec.specs.Run.{final}
use Rattle.goo_spec.specs.Sound.{IsSound}
use Rattle.goo_spec.specs.State.{State}
use Rattle.goo_spec.specs.Step.{outcome, changed, accept, after, next}
use Rattle.goo_spec.proofs.Mapping.{none_some}
use Rattle.goo_spec.proofs.Stepping.{sound_accept}
use Rattle.goo_spec_laws.proofs.Lasting.{never_again}
use Rattle.goo_ranges.specs.declared.edits.Edit.{Edit}
use Rattle.goo_ranges_rows.specs.Rows.{AreRowsOf}
use Rattle.goo_core_shelf.specs.Plan.{HaveKnownLots}
use Rattle.goo_core_rules.specs.Changes.{AreOfLots, IsLotOf}
use Rattle.goo_core_rules.proofs.Lots.{lots_weaker}

-- the lot of each certificate is known
lot_known : (s : State) → IsSound s → (n : ℕ) (lot : LotFields) → lot_in (get s.at n) ≡ Some lot → get s.lots (key_of lot) ≡ Some lot
lot_known s sound n lot has = by (get s.at n) refl has
  where
    by : (o : Option Label) → get s.at n ≡ o → lot_in o ≡ Some lot → get s.lots (key_of lot) ≡ Some lot
    by None is has = none_some lot has
    by (Some l) is has = let same : l.0 ≡ lot = cc in subst (λ (k : LotFields). get s.lots (key_of k) ≡ Some k) same (sound.known.known n l.0 l.1 is)

module _ (s : State) (q : Request) (reply : Reply) (obeys : Obeys q.command) (sound : IsSound s) (accepted : outcome s q ≡ Accepted reply) where
  alone : AllObey (q ∷ [])
  alone = All-cons (λ (p : Request). Obeys p.command) q [] obeys (All-nil (λ (p : Request). Obeys p.command))

  stepped : final s (q ∷ []) ≡ accept s q
  unfolding next
  stepped = ap (after s q) accepted

  -- a certificate keeps its lot
  lot_kept : (n : ℕ) (lot : LotFields) → lot_in (get s.at n) ≡ Some lot → lot_in (get (accept s q).at n) ≡ Some lot
  lot_kept n lot has = subst (λ (t : State). lot_in (get t.at n) ≡ Some lot) stepped ((never_again s (q ∷ []) alone sound).lots n lot has)

  pub known_lots : (rows : List Piece) (edits : List Edit) → AreRowsOf s.at rows → AreOfLots (IsLotOf (at_of rows) (get (changed s q.command).at)) edits → HaveKnownLots (accept s q) edits
  unfolding accept
  known_lots rows edits kept lots =
      let now = sound_accept s q reply obeys accepted sound in
      let known : (lot : LotFields) → IsLotOf (at_of rows) (get (changed s q.command).at) lot → get (accept s q).lots (key_of lot) ≡ Some lot =
      λ lot is. ⊎_elim
      (λ (before : lot_in (at_of rows is.0) ≡ Some lot). lot_known (accept s q) now is.0 lot (lot_kept is.0 lot (ap lot_in (sym (kept.same is.0)) ∙ before)))
      (λ (here : lot_in (get (changed s q.command).at is.0) ≡ Some lot). lot_known (accept s q) now is.0 lot here)
      is.1 in
      lots_weaker (IsLotOf (at_of rows) (get (changed s q.command).at)) (λ lot. get (accept s q).lots (key_of lot) ≡ Some lot) known edits lots
