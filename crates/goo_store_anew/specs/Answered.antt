-- What tables hold by the names of their columns.
use Rattle.std.specs.Prelude.{◌≡◌, ◌<◌, ℕ, List, [], map, length, Ok, Err, get_or}
use Rattle.sqlite.specs.Clock.{timed}
use Rattle.sqlite.specs.Effect.{Database, Reads}
use Rattle.sqlite.specs.Listing.{understood, reads_listing, IsSourceOf}
use Rattle.sqlite.specs.Order.{Row}
use Rattle.sqlite.specs.Schema.{Schema}
use Rattle.sqlite.specs.Tree.{Trees}
use Rattle.sqlite.specs.declared.error.Error.{Error}
use Rattle.sqlite.specs.declared.error.Error.TheVariants.{SqlInputError, InvalidColumnIndex, InvalidColumnType, IntegralValueOutOfRange, Utf8Error}
use Rattle.sqlite_resolve.specs.declared.compiled.Compiled.{Compiled}
use Rattle.sqlite_resolve.specs.declared.error.CompileError.{CompileError}
use Rattle.goo_store_anew.specs.declared.answers.Answer.{Answer}
use Rattle.goo_store_anew.specs.Questions.{question_texts}

-- asked this, the database answers with these rows
abbrev pub Answers : Database → List ℕ → List Row → Type 0
Answers db sql rows =
    (c : Compiled) × (understood db.schema sql ≡ Ok c) × (now : ℕ) × (from : Database) × IsSourceOf (reads_listing db.schema sql) db from × Reads c.command from (timed [] c.formats now) rows

-- the table in this place has these rows, by the names of its columns
abbrev pub Shows : Database → ℕ → List Row → Type 0
Shows db at = Answers db (get_or question_texts at [])

-- a table or a column that a question names is missing
abbrev pub LacksFor : Schema → List ℕ → Type 0
LacksFor schema sql = (fault : CompileError) × (understood schema sql ≡ Err fault)

-- that of the table in this place
abbrev pub Lacks : Database → ℕ → Type 0
Lacks db at = LacksFor db.schema (get_or question_texts at [])

-- An error of a question, which is none of reading a value. That the text can't be understood is told only where a table or a column that it
-- names is missing.
abbrev pub IsErrorFor : Schema → List ℕ → Error → Type 0
IsErrorFor schema sql (SqlInputError cause) = LacksFor schema sql
IsErrorFor schema sql (InvalidColumnIndex column) = ⊥
IsErrorFor schema sql (InvalidColumnType column kind) = ⊥
IsErrorFor schema sql (IntegralValueOutOfRange column) = ⊥
IsErrorFor schema sql (Utf8Error column) = ⊥
IsErrorFor schema sql _ = Unit {0}

-- that of the question for the table in this place
abbrev pub IsErrorOf : Database → ℕ → Error → Type 0
IsErrorOf db at = IsErrorFor db.schema (get_or question_texts at [])

-- each of so many tables has the same rows in both
abbrev pub IsSameIn : ℕ → Database → Database → Type 0
IsSameIn count a b = (at : ℕ) → at < count → (rows : List Row) × Shows a at rows × Shows b at rows

-- the rows in an answer's place
abbrev pub rows_at : List Answer → ℕ → List Row
rows_at answers at = get_or (map (λ (a : Answer). a.rows.items) answers) at []

-- so many tables have the rows that were answered
abbrev pub AreAnswers : ℕ → Database → List Answer → Type 0
AreAnswers count db answers = (length answers ≡ count) × ((at : ℕ) → at < count → Shows db at (rows_at answers at))

-- trees of a database of which just these rows were answered
abbrev pub HoldAnswers : List Answer → Trees → Type 0
HoldAnswers answers trees = (after : Database) × (trees ≡ after.trees) × AreAnswers (length answers) after answers
