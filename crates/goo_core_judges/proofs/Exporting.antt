-- What an export comes to.
use Rattle.std.proofs.Common.{◌≡◌, ◌∙◌, inl, inr, ℕ, ◌+◌, ◌≤◌, List, [], ◌∷◌, ◌++◌, Option, Some, None, refl, ap, sym, subst, arith}
use Rattle.std.specs.FinMap.{get}
use Rattle.goo_types.specs.Notice.{NoticeContents, IsNotice}
use Rattle.goo_types.specs.Piece.{Label, at_of}
use Rattle.goo_types.specs.Range.{IsRange}
use Rattle.goo_types.specs.declared.command.Export.{Export}
use Rattle.goo_types.specs.declared.part.Part.{Part}
use Rattle.goo_types.specs.declared.piece.Piece.{Piece}
use Rattle.goo_types.specs.declared.place.Place.TheVariants as place
use Rattle.goo_types.specs.declared.refusal.Refusal.{Refusal}
use Rattle.goo_types.specs.declared.reply.Reply.TheVariants as reply
use Rattle.goo_spec.specs.Checks.{first_refusal}
use Rattle.goo_spec.specs.Export.{parts_of, export_refusal, export_reply, with_export, notice_of}
use Rattle.goo_spec.specs.Lots.{lot_in}
use Rattle.goo_spec.specs.Maps.{each, least_absent, count_of}
use Rattle.goo_spec.specs.Parts.{AreInRow, HaveLots, ArePartsOf}
use Rattle.goo_spec.specs.Sound.{IsSound}
use Rattle.goo_spec.specs.State.{State}
use Rattle.goo_spec.proofs.Checking.{none_fail, unfound}
use Rattle.goo_spec.proofs.Noticing.{notice_is_whole}
use Rattle.goo_spec.proofs.Parting.{parts_are, one_list_of_parts, row_ends}
use Rattle.goo_ranges_rows.specs.Rows.{AreRowsOf, meeting}
use Rattle.goo_ranges_rows.proofs.Framing.{meeting-at}
use Rattle.goo_core_judges.specs.Export.{entry_checks, sending_checks, notice_with, IsUnsendable, IsHeldBack, IsExportRuling, export_meaning}
use Rattle.goo_core_moves.specs.Moves.{IsMove}
use Rattle.goo_core_moves.specs.Ruling.{IsRuling}
use Rattle.goo_core_rules.specs.Trade.{trade_checks}
use Rattle.goo_core_rules.specs.declared.ruling.Ruling.{Ruling}
use Rattle.goo_core_rules.specs.declared.ruling.Ruling.TheVariants.{Refused, Repeated, Passed}
use Rattle.goo_core_moves.proofs.Transferring.{trade-alike}
use Rattle.goo_core_moves.proofs.Rulings.{passed_early, failed_early, ruled_move}

pub entry-fails : (s : State) (caller : List ℕ) (x : Export) (r : Refusal) → first_refusal (entry_checks s caller x) ≡ Some r → export_refusal s caller x ≡ Some r
unfolding export_refusal
entry-fails s caller x r fails =
    failed_early (entry_checks s caller x) (trade_checks (get s.at) x.range x.giver s.today ++ sending_checks (parts_of s.at (each x.range)) s.next_notice) r fails

-- the same lots, seen through maps that agree on the range
lots-alike : (f g : ℕ → Option Label) (low high first end : ℕ) (ps : List Part) → ((n : ℕ) → low ≤ n → n ≤ high → f n ≡ g n) → low ≤ first → end ≤ high + 1 → AreInRow first end ps → HaveLots f ps → HaveLots g ps
lots-alike f g low high first end [] same from to row lots = tt
lots-alike f g low high first end (p ∷ ps) same from to row lots =
    let starts : p.range.first ≡ first = row.0 in
    let up : first ≤ p.range.last = row.1 in
    let ends : p.range.last + 1 ≤ end = row_ends (p.range.last + 1) end ps row.2 in (
      (λ n above below. ap lot_in (sym (same n (omega (arith, from, starts, above)) (omega (arith, below, ends, to)))) ∙ lots.0 n above below),
      lots-alike f g low high (p.range.last + 1) end ps same (omega arith) to row.2 lots.1,
    )

module _ (s : State) (rows met : List Piece) (caller : List ℕ) (x : Export) (kept : AreRowsOf s.at rows) (is : met ≡ meeting x.range rows) (range : IsRange x.range)
    (passed : first_refusal (entry_checks s caller x) ≡ None) where
  late : first_refusal (trade_checks (get s.at) x.range x.giver s.today) ≡ first_refusal (trade_checks (at_of met) x.range x.giver s.today)
  late = trade-alike s.at rows x.range x.giver s.today kept ∙ rw is refl

  -- the parts are those of the definition
  parts-same : (parts : List Part) → first_refusal (trade_checks (at_of met) x.range x.giver s.today) ≡ None → ArePartsOf (at_of met) x.range parts → parts_of s.at (each x.range) ≡ parts
  parts-same parts none are =
      let rising : x.range.first ≤ x.range.last = range.rising in
      let there : least_absent (get s.at) (each x.range) ≡ None = unfound _ _ (none_fail (trade_checks (get s.at) x.range x.giver s.today) (late ∙ none)).0 in
      let same : (n : ℕ) → x.range.first ≤ n → n ≤ x.range.last → at_of met n ≡ get s.at n = λ n from to. ap (λ l. at_of l n) is ∙ meeting-at s.at rows x.range kept n from to in
      one_list_of_parts (get s.at) x.range (parts_of s.at (each x.range)) parts
      (parts_are s.at x.range (omega arith) there)
      (record { row = are.row; longest = are.longest; lots = lots-alike (at_of met) (get s.at) x.range.first x.range.last x.range.first (x.range.last + 1) parts same (omega arith) (omega arith) are.row are.lots })

  pub refusal-early : first_refusal (trade_checks (at_of met) x.range x.giver s.today) ≡ None → (parts : List Part) → ArePartsOf (at_of met) x.range parts
      → export_refusal s caller x ≡ first_refusal (sending_checks parts s.next_notice)
  unfolding export_refusal
  refusal-early none parts are =
      passed_early (entry_checks s caller x) (trade_checks (get s.at) x.range x.giver s.today ++ sending_checks (parts_of s.at (each x.range)) s.next_notice) passed
      ∙ passed_early (trade_checks (get s.at) x.range x.giver s.today) (sending_checks (parts_of s.at (each x.range)) s.next_notice) (late ∙ none)
      ∙ ap (λ ps. first_refusal (sending_checks ps s.next_notice)) (parts-same parts none are)

  trade-fails : (r : Refusal) → first_refusal (trade_checks (at_of met) x.range x.giver s.today) ≡ Some r → export_refusal s caller x ≡ Some r
  unfolding export_refusal
  trade-fails r fails =
      passed_early (entry_checks s caller x) (trade_checks (get s.at) x.range x.giver s.today ++ sending_checks (parts_of s.at (each x.range)) s.next_notice) passed
      ∙ failed_early (trade_checks (get s.at) x.range x.giver s.today) (sending_checks (parts_of s.at (each x.range)) s.next_notice) r (late ∙ fails)

  notice-same : (parts : List Part) → first_refusal (trade_checks (at_of met) x.range x.giver s.today) ≡ None → ArePartsOf (at_of met) x.range parts → notice_with s.own s.next_notice x parts ≡ notice_of s x
  unfolding notice_of
  notice-same parts none are = ap (notice_with s.own s.next_notice x) (sym (parts-same parts none are))

  held-back : IsSound s → (r : Refusal) → first_refusal (trade_checks (at_of met) x.range x.giver s.today) ≡ None → IsHeldBack s.own s.next_notice x (at_of met) r → export_refusal s caller x ≡ Some r
  held-back sound r none back = by back.why
    where
      by : IsUnsendable s.own s.next_notice x back.parts r → export_refusal s caller x ≡ Some r
      by (inl fails) = refusal-early none back.parts back.are ∙ fails
      by (inr never) =
          let free = refusal-early none back.parts back.are ∙ never.0 in
          absurd (never.1 (subst IsNotice (sym (notice-same back.parts none back.are)) (notice_is_whole s caller x range free sound).notice))

  pub ruled_export : IsSound s → (ruling : Ruling) → IsExportRuling s.own s.next_notice s.today x met ruling → IsRuling (export_meaning s caller x) rows ruling
  unfolding export_reply with_export
  ruled_export sound (Refused r) (inl fails) = (refl, trade-fails r fails)
  ruled_export sound (Refused r) (inr back) = (refl, held-back sound r back.0 back.1)
  ruled_export sound (Repeated reply) ruled = absurd ruled
  ruled_export sound (Passed change) ruled =
      let out = ruled.1.1 in
      let free = refusal-early ruled.0 out.parts out.are ∙ out.free in
      let move : IsMove (reply.Exported s.next_notice (count_of x.range)) (Some (notice_of s x)) x.range (place.Exported x.giver s.next_notice) met change
      = subst (λ (m : NoticeContents). IsMove (reply.Exported s.next_notice (count_of x.range)) (Some m) x.range (place.Exported x.giver s.next_notice) met change) (out.says ∙ notice-same out.parts ruled.0 out.are) ruled.1.2 in
      ruled_move (export_meaning s caller x) s.at rows met None x.range (place.Exported x.giver s.next_notice) (Passed change) kept is refl free refl refl refl (refl, move)
