-- What carries a command out in the tables, beside the certificates.
use Rattle.std.specs.Prelude.{◌≡◌}
use Rattle.goo_types.specs.declared.command.Command.{Command}
use Rattle.goo_types.specs.declared.outcome.Outcome.TheVariants.{Accepted}
use Rattle.goo_types.specs.declared.reply.Reply.{Reply}
use Rattle.goo_types.specs.declared.request.Request.{Request}
use Rattle.goo_spec.specs.Step.{outcome, changed}
use Rattle.goo_tables_rows.specs.Rows.{Tables}
use Rattle.goo_spec_tables.specs.Kept.{AreKept}
use Rattle.goo_spec_tables.specs.States.{state_of}
use Rattle.goo_store_plans.specs.Acted.{IsActed}
use Rattle.goo_store_changes.specs.Changes.{made_all, AreFor, AreFree, HaveRoom}
use Rattle.goo_store_plans.specs.LotNumbers.{AreJustWith}
use Rattle.goo_store_plans.specs.Room.{HaveRowids}
use Rattle.goo_store_plans.specs.declared.gathered_lots.Gathered.{Gathered}

-- the changes make of the tables what the command does, and put its lots in under their numbers
pub record CarriesOut (t : Tables) (c : Command) (g : Gathered) : Type 0 where
  pub for : AreFor t g.changes.items
  pub free : AreFree t g.changes.items
  pub room : HaveRowids t → HaveRoom t g.changes.items
  pub acted : IsActed t (made_all t g.changes.items) (changed (state_of t) c)
  pub lots : AreJustWith t.lots g.added.items (made_all t g.changes.items).lots

-- the tables keep the rules, and this request is accepted with this reply
pub record IsAccepted (t : Tables) (q : Request) (reply : Reply) : Type 0 where
  pub kept : AreKept t
  pub accepted : outcome (state_of t) q ≡ Accepted reply
