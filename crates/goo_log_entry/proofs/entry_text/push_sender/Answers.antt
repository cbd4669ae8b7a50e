use Rattle.goo_log_entry.proofs.entry_text.push_sender.Goals as goal

pub returns-clause-tokens : goal.returns-clause-tokens
returns-clause-tokens c =
    rw (
      c.in_ok-push_text-2.ensures.tokens,
      c.in_ok-push_text.ensures.tokens,
      c.in_ok-push_user.ensures.tokens,
      c.as_str.ensures.value,
      c.as_str-2.ensures.value,
      c.as_str-3.ensures.value,
    ) at c.push_text-3.ensures.tokens
