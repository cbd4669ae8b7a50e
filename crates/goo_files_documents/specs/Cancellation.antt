-- The document of a cancellation.
use Rattle.std.specs.Prelude.{ℕ, ◌+◌, List, [], ◌∷◌, ◌++◌, flat_map, codes, decimal}
use Rattle.goo_types.specs.Texts.{day_text}
use Rattle.goo_types.specs.declared.piece.Piece.{Piece}
use Rattle.goo_files_documents.specs.Words.{code_text, period_text}
use Rattle.goo_files_documents.specs.Runs.{count_of, document_line}
use Rattle.goo_files_documents.specs.declared.cancellation.CancellationHead.{CancellationHead}

-- which cancellation of which registry it is
abbrev pub registry_lines : CancellationHead → List ℕ
registry_lines h = codes "CANCELLATION " ++ decimal h.act ++ codes "\nregistry " ++ code_text h.code

-- whose certificates it took, and for whom
abbrev pub owner_lines : CancellationHead → List ℕ
owner_lines h = codes "\naccount " ++ decimal h.account ++ codes "\nholder " ++ h.holder ++ codes "\nbeneficiary " ++ h.beneficiary

unfoldable pub cancellation_head : CancellationHead → List ℕ
cancellation_head h =
    registry_lines h ++ codes "\ndate " ++ day_text h.day ++ owner_lines h ++ codes "\nperiod " ++ period_text h.use_first h.use_last ++ codes "\n"

unfoldable pub cancellation_foot : ℕ → List ℕ
cancellation_foot count = codes "certificates " ++ decimal count ++ codes "\nEND\n"

-- how many certificates some runs have
abbrev pub certificates_in : List Piece → ℕ
certificates_in [] = 0
certificates_in (p ∷ ps) = count_of p + certificates_in ps

-- the document with these runs, a line each
abbrev pub cancellation_text : CancellationHead → List Piece → List ℕ
cancellation_text h runs = cancellation_head h ++ (flat_map document_line runs ++ cancellation_foot (certificates_in runs))
