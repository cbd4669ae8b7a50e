-- What an import comes to, part by part of its notice.
use Rattle.std.specs.Prelude.{◌≡◌, ◌==◌, ◌&&◌, ℕ, List, [], ◌∷◌, ◌++◌, length, map, Option, Some, None, Result, Ok, Err}
use Rattle.std.specs.List.{list_any}
use Rattle.std.specs.FinMap.{get}
use Rattle.goo_types.specs.Number.{code_of}
use Rattle.goo_types.specs.Piece.{Label}
use Rattle.goo_types.specs.declared.command.Import.{Import}
use Rattle.goo_types.specs.declared.part.Part.{Part}
use Rattle.goo_types.specs.declared.piece.Piece.{Piece}
use Rattle.goo_types.specs.declared.place.Place.TheVariants.{Held}
use Rattle.goo_types.specs.declared.refusal.Refusal.{Refusal}
use Rattle.goo_types.specs.declared.refusal.Refusal.TheVariants.{UnknownNumber, NumberTaken, LotDiffers, Stale}
use Rattle.goo_ranges.specs.Change.{set_to}
use Rattle.goo_ranges_rows.specs.Rows.{meeting}
use Rattle.goo_spec.specs.Checks.{first_refusal, when, naming, account_refusal}
use Rattle.goo_spec.specs.Days.{is_over}
use Rattle.goo_spec.specs.Import.{least_where, differs, entry_checks, import_repeats, import_refusal, import_reply, with_import}
use Rattle.goo_spec.specs.Lots.{is_absent, fails, is_exported, key_of}
use Rattle.goo_spec.specs.State.{State}
use Rattle.goo_core_shelf.specs.Meta.{meta_of}
use Rattle.goo_core_shelf.specs.declared.own.Meta.{Meta}
use Rattle.goo_core_moves.specs.Ruling.{Meaning}
use Rattle.goo_core_moves.specs.declared.arriving.Arriving.{Arriving}

-- what its definitions say of an import
abbrev pub import_meaning : State → List ℕ → Import → Meaning
import_meaning s caller x = record { repeated = import_repeats s caller x; refused = import_refusal s caller x; reply = import_reply s x; notice = None; after = (with_import s x).at; most = λ rows. length x.notice.parts; ranges = map (λ p. p.range) x.notice.parts }

-- what the registry knows of itself, where no check before that for the same notice fails
abbrev pub IsEntry : State → List ℕ → Import → Result Meta Refusal → Type 0
IsEntry s caller x (Ok meta) = (first_refusal (entry_checks s caller x) ≡ None) × (meta ≡ meta_of s)
IsEntry s caller x (Err refusal) = first_refusal (entry_checks s caller x) ≡ Some refusal

-- those of the account that is to hold the certificates, and of their age
abbrev pub standing_checks : State → Import → List (Option Refusal)
standing_checks s x =
    account_refusal (get s.accounts x.notice.account)
    ∷ when (list_any (λ p. is_over p.lot s.today) x.notice.parts) Stale
    ∷ []

-- those over its numbers
abbrev pub number_checks : State → Import → List (Option Refusal)
number_checks s x =
    naming UnknownNumber (least_where (λ e. (code_of e.0 == s.own) && is_absent (get s.at e.0)) x.notice.parts)
    ∷ naming NumberTaken (least_where (λ e. fails (λ lot place. is_exported place) (get s.at e.0)) x.notice.parts)
    ∷ naming LotDiffers (least_where (differs s) x.notice.parts)
    ∷ []

-- what its definitions say of an import whose notice is new
abbrev pub fresh_meaning : State → Import → Meaning
fresh_meaning s x = record { repeated = None; refused = first_refusal (standing_checks s x ++ number_checks s x); reply = import_reply s x; notice = None; after = (with_import s x).at; most = λ rows. length x.notice.parts; ranges = map (λ p. p.range) x.notice.parts }

-- what is known of a part
pub record IsArriving (s : State) (rows : List Piece) (p : Part) (a : Arriving) : Type 0 where
  pub part : a.part ≡ p
  pub met : a.book ≡ meeting p.range rows
  pub known : a.known ≡ get s.lots (key_of p.lot)

abbrev pub AreArriving : State → List Piece → List Part → List Arriving → Type 0
AreArriving s rows [] [] = Unit {0}
AreArriving s rows [] (a ∷ more) = ⊥
AreArriving s rows (p ∷ ps) [] = ⊥
AreArriving s rows (p ∷ ps) (a ∷ more) = IsArriving s rows p a × AreArriving s rows ps more

-- what the parts make of a number, one after another
abbrev pub given : List Arriving → ℕ → ℕ → Option Label → Option Label
given [] account n o = o
given (a ∷ more) account n o = given more account n (set_to a.part.range.first a.part.range.last (a.part.lot, Held account) n o)
