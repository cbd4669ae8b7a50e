-- The line of a run of certificates.
use Rattle.std.specs.Prelude.{ℕ, ◌+◌, ◌-◌, List, ◌++◌, codes}
use Rattle.goo_types.specs.Texts.{number_text}
use Rattle.goo_types.specs.declared.lot_fields.LotFields.{LotFields}
use Rattle.goo_types.specs.declared.piece.Piece.{Piece}
use Rattle.goo_files_documents.specs.Words.{right_aligned, period_text, place_text}

-- how many certificates a run has
abbrev pub count_of : Piece → ℕ
count_of p = p.last - p.first + 1

-- first, last, and how many
abbrev pub numbers_text : Piece → List ℕ
numbers_text p = number_text p.first ++ codes " " ++ number_text p.last ++ codes " " ++ right_aligned 12 (count_of p)

-- what a lot states: device, period, technology, source
abbrev pub lot_text : LotFields → List ℕ
lot_text lot =
    lot.device ++ codes " " ++ period_text lot.first_day lot.last_day ++ codes " " ++ lot.tech ++ codes " " ++ lot.source

abbrev pub certificates_text : Piece → List ℕ
certificates_text p = numbers_text p ++ codes " " ++ lot_text p.lot

-- in a statement, where they are besides
unfoldable pub statement_line : Piece → List ℕ
statement_line p = certificates_text p ++ codes " " ++ place_text p.place ++ codes "\n"

-- in the document of a cancellation
unfoldable pub document_line : Piece → List ℕ
document_line p = certificates_text p ++ codes "\n"
