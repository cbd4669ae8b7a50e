use Rattle.goo_log_entry.proofs.entry_text.push_user.Goals as goal

pub returns-clause-tokens : goal.returns-clause-tokens
returns-clause-tokens c = rw (c.in_ok-push_optional.ensures.tokens, c.in_ok-push_text.ensures.tokens, c.as_str.ensures.value) at c.push_optional-2.ensures.tokens
