-- Steps inside a transaction, one after another.
use Rattle.std.proofs.Common.{arith}
use Rattle.sqlite.specs.State.{State}
use Rattle.goo_tables_rows.proofs.Inside.{keeps_then, keeps_itself, survives_both, stays}
use Rattle.goo_store_anew.specs.Quiet.{IsQuiet}

pub quiet_itself : (a : State) → IsQuiet a a
quiet_itself a = record { uncommitted = λ _. keeps_itself a; survives = stays a }

pub quiet_then : (a b c : State) → IsQuiet a b → IsQuiet b c → IsQuiet a c
quiet_then a b c one two = record {
  uncommitted = λ clean. keeps_then a b c (one.uncommitted (omega (arith, clean, two.survives.clean))) (two.uncommitted clean);
  survives = survives_both a b c one.survives two.survives;
}
