use Rattle.std.proofs.Common.{◌≡◌, subst}
use Rattle.goo_cli_ending.specs.Endings.{status_of}
use Rattle.goo_cli_texts.proofs.Texts.{begun, shown, silent, flushed}
use Rattle.goo_cli_texts.proofs.showing.show_audit.Goals as goal

pub returns-clause-shown : goal.returns-clause-shown
returns-clause-shown g c clean status =
    shown _ _ _ _ _ _ _ c.write_audit-written.result c.is_ok-flushed.result c.write_audit-written.ensures c.flush.ensures.bytes clean
    (subst (λ e. status_of e ≡ 0) c.ending_of.ensures status)

pub returns-clause-silent : goal.returns-clause-silent
returns-clause-silent g c clean status =
    silent _ _ _ _ _ _ _ c.write_audit-written.result c.is_ok-flushed.result c.write_audit-written.ensures c.flush.ensures.bytes clean
    (subst (λ e. status_of e ≡ 1) c.ending_of.ensures status)

pub returns-clause-begun : goal.returns-clause-begun
returns-clause-begun g c clean sure status =
    begun _ _ _ _ _ _ _ c.write_audit-written.result c.is_ok-flushed.result c.write_audit-written.ensures c.flush.ensures.bytes clean sure
    (subst (λ e. status_of e ≡ 3) c.ending_of.ensures status)

pub returns-clause-flushed : goal.returns-clause-flushed
returns-clause-flushed g c status =
    flushed _ c.write_audit-written.result c.is_ok-flushed.result c.flush.result c.is_ok-flushed.ensures.value c.flush.ensures.ok
    (subst (λ e. status_of e ≡ 0) c.ending_of.ensures status)

-- a crash after a look-up finds what was there
pub returns-clause-safe : goal.returns-clause-safe
returns-clause-safe g c clean sure = c.write_audit-written.ensures.looks.crash clean sure
