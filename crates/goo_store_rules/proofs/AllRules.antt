-- The rules that are judged over what was read are those of the tables.
use Rattle.std.proofs.Common.{◌≡◌, pos, true, None, sym, subst, ◌∙◌}
use Rattle.std.specs.Prelude.{◌↔◌}
use Rattle.std.proofs.lemmas.Bool.{and_parts, and_from}
use Rattle.goo_ranges_rows.proofs.CertificateLemmas.{certificates-rows}
use Rattle.goo_tables_rows.specs.Rows.{Tables}
use Rattle.goo_tables_rows.specs.Stands.{Stands}
use Rattle.goo_spec_tables.specs.Kept.{AreReadableIn, AreKeptIn}
use Rattle.goo_spec_tables.specs.Places.{rows_of}
use Rattle.goo_spec_tables.specs.States.{state_of}
use Rattle.goo_store_open.specs.Found.{AreOf}
use Rattle.goo_store_open.specs.declared.finding.Found.{Found}
use Rattle.goo_store_rules.specs.WellKept.{are_joined}
use Rattle.goo_store_rules.specs.Rules.{KeepsRules, HaveOwnKeys, RulesAreThose}
use Rattle.goo_store_rules.proofs.CarriersThere.{carrier_rule}
use Rattle.goo_store_rules.proofs.KeptCertificates.{HasItsCertificates}
use Rattle.goo_store_rules.proofs.PiecesJudged.{each_found, kept_by_rules, rules_by_kept}
use Rattle.goo_store_rules.proofs.KeptKeys.{AreKnownRows, rows_are_known, own_fields}
use Rattle.goo_store_rules.proofs.KeptApart.{apart_from, apart_back}
use Rattle.goo_store_rules.proofs.KeptByName.{kept_by_name, keeps_by_name}
use Rattle.goo_store_rules.proofs.Judged.{KeepsPieces, judged, numbers_are, names_are, declarations_are}
use Rattle.goo_store_rules.proofs.Whole.{sound_whole, kept_by_name_of}
use Rattle.goo_store_rules.proofs.ProductionKept.{production_rises, production_covered, production_issued, production_progress, production_back}

has_its : (t : Tables) → HasItsCertificates t
unfolding state_of
has_its t up n = (certificates-rows (rows_of t) up).same n

module _ (db : _) (t : Tables) (x : Found) (stands : Stands db t) (keys : HaveOwnKeys t) (of : AreOf t x) where
  known_rows : AreReadableIn t.meta.version t → AreKnownRows t
  known_rows read = rows_are_known db t keys stands read.lots keys.lots

  all_kept : KeepsRules t.meta.version x → AreKeptIn t.meta.version t
  all_kept keeps =
      let parts = judged x keeps.values.numbers keeps.names.names keeps.names.declared in
      let carriers = and_parts _ _ (sym (carrier_rule t x of) ∙ keeps.names.carriers) in
      let named = kept_by_name t x keys of stands.devices_carried stands.lots_carried (record { values = keeps.values.values; corrections = keeps.values.corrections; notices = keeps.names.notices; lots = keeps.values.lots; names = parts.0 }) in
      let pieces = kept_by_rules t x of db stands (record { readable = named.readable; kept = λ id l found. named.lots (pos id) l found; certificates = has_its t })
      (each_found _ t.lots (known_rows named.readable).lots) keeps.values.numbers keeps.names.names keeps.names.places in
      record {
        readable = named.readable;
        carried_devices_there = carriers.0;
        carried_lots_there = carriers.1;
        lots_there = pieces.lots_there;
        rising = pieces.rising;
        apart = λ two. apart_from t (own_fields db t keys stands named.readable.lots keys.lots) named.readable.pieces pieces.lots_there (subst (λ ps. are_joined None ps ≡ true) of.pieces (keeps.whole two));
        lots = named.lots;
        devices = named.devices;
        progress = production_progress t x of keeps.production parts.0.declared;
        sound = sound_whole t named (record {
          known = pieces.known;
          places = pieces.places;
          times = pieces.times;
          periods = production_rises t x of keeps.production;
          covered = production_covered t x of keeps.production;
          issued_when_due = production_issued t x of keeps.production pieces.rising;
        });
      }

  all_keep : AreKeptIn t.meta.version t → KeepsRules t.meta.version x
  all_keep kept =
      let named = keeps_by_name t x of (known_rows kept.readable) (kept_by_name_of t kept) in
      let pieces = rules_by_kept t x of db stands (has_its t) kept in
      let judged_so : KeepsPieces x = record { apart = pieces.apart; issued = pieces.issued; accounts = pieces.accounts } in
      record {
        values = record { values = named.values; corrections = named.corrections; numbers = numbers_are x named.names judged_so; lots = named.lots };
        whole = λ two. subst (λ ps. are_joined None ps ≡ true) (sym of.pieces) (apart_back t kept.lots_there (kept.apart two));
        names = record { names = names_are x named.names judged_so; places = pieces.places; notices = named.notices; declared = declarations_are x named.names judged_so; carriers = carrier_rule t x of ∙ and_from _ _ kept.carried_devices_there kept.carried_lots_there };
        production = production_back t x of kept.sound.declarations.rising kept.sound.corrections.net kept.devices kept.progress kept.rising kept.sound.issued_when_due;
      }

pub rules_are_those : RulesAreThose
rules_are_those number db t x stands keys of version =
    subst (λ n. KeepsRules n x ↔ AreKeptIn n t) version (all_kept db t x stands keys of, all_keep db t x stands keys of)
