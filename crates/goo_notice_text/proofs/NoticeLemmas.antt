-- The text of a notice is read back.
use Rattle.std.proofs.Common.{◌≡◌, ◌≤◌, ◌<◌, All, Bool, true, false, List, [], ◌∷◌, map, Some, Ok, refl, arith}
use Rattle.std.proofs.lemmas.Bool.{true≢false, or_parts}
use Rattle.std.proofs.lemmas.List.Elements.{All-nil, All-cons}
use Rattle.goo_types.specs.declared.carrier.Carrier.{Carrier}
use Rattle.goo_types.specs.declared.carrier.Carrier.TheVariants as carrier
use Rattle.goo_types.specs.declared.part.Part.{Part}
use Rattle.goo_notice_json.proofs.StatedLotLemmas as lot
use Rattle.json.specs.Tree as tree
use Rattle.json.proofs.Printed.Decimals.{IsNumber-decimal}
use Rattle.serde_json.proofs.Numbers.{number_of-decimal}
use Rattle.std.specs.Prelude.{pos}
use Rattle.serde_json.specs.View.{items_of}
use Rattle.goo_notice_json.specs.Parts.{part_data}
use Rattle.serde_json.specs.Written.{has_float, outline}
use Rattle.goo_types.specs.Notice.{NoticeContents}
use Rattle.goo_notice_json.specs.Lot.{is_other}
use Rattle.goo_notice_text.specs.Notice.{are_carried, version_of, notice_data, IsStatedNotice, notice_fields_of, carried_in, notice_of}
use Rattle.goo_notice_json.proofs.FieldLemmas.{fits, is_in_range-true}
use Rattle.goo_notice_json.proofs.PartsLemmas as parts
use Rattle.goo_notice_text.proofs.RuleLemmas.{Decides-is_notice}
use Rattle.goo_notice_json.proofs.TextLemmas.{ReadsBack}

small : (b : Bool) → version_of b < 18446744073709551616
small true = omega arith
small false = omega arith

pub no_float : (n : NoticeContents) → has_float (notice_data n) ≡ false
unfolding notice_data
no_float n = rw (parts.no_float (are_carried n.parts) n.parts) refl

pub depth : (n : NoticeContents) → tree.depth (outline (notice_data n)) ≤ 4
unfolding notice_data
depth n = omega (arith, parts.depth (are_carried n.parts) n.parts)

pub reads_back : (n : NoticeContents) → IsStatedNotice n → ReadsBack (notice_data n)
unfolding notice_data
reads_back n h =
    let account = fits 1 999999999 n.account h.account (omega arith) in
    let addressee = fits 1 99 n.addressee h.addressee (omega arith) in
    let number = fits 1 999999999 n.number h.number (omega arith) in
    let sender = fits 1 99 n.sender h.sender (omega arith) in
    record {
      numbers = (
        IsNumber-decimal n.account account,
        (
          IsNumber-decimal n.addressee addressee,
          (
            IsNumber-decimal n.number number,
            (parts.numbers (are_carried n.parts) n.parts h.parts, (IsNumber-decimal n.sender sender, (IsNumber-decimal (version_of (are_carried n.parts)) (small (are_carried n.parts)), tt))),
          ),
        ),
      );
      shallow = omega (arith, parts.depth (are_carried n.parts) n.parts);
      again = rw (
        number_of-decimal n.account account,
        number_of-decimal n.addressee addressee,
        number_of-decimal n.number number,
        parts.again (are_carried n.parts) n.parts h.parts,
        number_of-decimal n.sender sender,
        number_of-decimal (version_of (are_carried n.parts)) (small (are_carried n.parts)),
      ) refl;
    }

-- where no lot has another carrier, each is one of electricity
electric : (c : Carrier) → is_other c ≡ false → c ≡ carrier.Electricity
electric carrier.Electricity h = refl
electric carrier.Gas h = absurd (true≢false h)
electric carrier.Hydrogen h = absurd (true≢false h)
electric carrier.HeatingCooling h = absurd (true≢false h)

all_told : (b : Bool) (ps : List Part) → are_carried ps ≡ b → All (λ p. lot.IsTold b p.lot) ps
all_told true ps is = λ k d h. tt
all_told false [] is = All-nil (λ p. lot.IsTold false p.lot)
all_told false (p ∷ ps) is =
    let none = or_parts (is_other p.lot.carrier) (are_carried ps) is in
    All-cons (λ q. lot.IsTold false q.lot) p ps (electric p.lot.carrier none.0) (all_told false ps none.1)

-- a version says how its lots are told
told_by : (b : Bool) → carried_in (pos (version_of b)) ≡ Some b
told_by true = refl
told_by false = refl

fields : (b : Bool) (n : NoticeContents) → are_carried n.parts ≡ b → IsStatedNotice n
    → notice_fields_of (pos n.account) (pos n.addressee) (pos n.number) (pos n.sender) (pos (version_of b)) (items_of (map (part_data b) n.parts)) ≡ Ok n
unfolding notice_fields_of
fields true n is h =
    rw (
      is_in_range-true 1 99 n.sender h.sender,
      is_in_range-true 1 99 n.addressee h.addressee,
      is_in_range-true 1 999999999 n.number h.number,
      is_in_range-true 1 999999999 n.account h.account,
      parts.stated true n.parts h.parts (all_told true n.parts is),
      (Decides-is_notice n).1 h.notice,
    ) refl
fields false n is h =
    rw (
      is_in_range-true 1 99 n.sender h.sender,
      is_in_range-true 1 99 n.addressee h.addressee,
      is_in_range-true 1 999999999 n.number h.number,
      is_in_range-true 1 999999999 n.account h.account,
      parts.stated false n.parts h.parts (all_told false n.parts is),
      (Decides-is_notice n).1 h.notice,
    ) refl

pub stated : (n : NoticeContents) → IsStatedNotice n → notice_of (notice_data n) ≡ Ok n
unfolding notice_of notice_data
stated n h = rw (told_by (are_carried n.parts), parts.shape (are_carried n.parts) n.parts, fields (are_carried n.parts) n refl h) refl
