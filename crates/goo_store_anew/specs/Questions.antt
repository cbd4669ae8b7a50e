-- The questions for the rows of a registry's tables by the names of their columns, in the order in which the tables are made.
use Rattle.std.specs.Prelude.{ℕ, List, [], ◌∷◌, codes}

abbrev pub question_texts : List (List ℕ)
question_texts =
    codes "SELECT id, version, code, today, next_serial, next_account, next_cancellation, next_withdrawal, next_notice FROM meta ORDER BY id"
    ∷ codes "SELECT code, name FROM holder ORDER BY rowid"
    ∷ codes "SELECT number, holder, closed FROM account ORDER BY number"
    ∷ codes "SELECT gsrn, account, country, site, tech, source, capacity_w, commissioned, support, last_day, carry, NULL FROM device ORDER BY rowid"
    ∷ codes "SELECT id, device, first_day, last_day, gross, aux FROM declaration ORDER BY id"
    ∷ codes "SELECT id, origin, device, country, site, tech, source, capacity_w, commissioned, support, first_day, last_day, expires_on, issued_on, NULL FROM lot ORDER BY id"
    ∷ codes "SELECT first, last, lot, kind, account, act FROM piece ORDER BY first"
    ∷ codes "SELECT code FROM peer ORDER BY rowid"
    ∷ codes "SELECT caller, key, command, kind, n1, n2, n3 FROM receipt ORDER BY rowid"
    ∷ codes "SELECT number, account, first, last, beneficiary, use_first, use_last, day FROM cancellation ORDER BY number"
    ∷ codes "SELECT number, first, last, reason, day FROM withdrawal ORDER BY number"
    ∷ codes "SELECT number, account, body FROM notice_out ORDER BY number"
    ∷ codes "SELECT sender, number, body FROM notice_in ORDER BY rowid"
    ∷ codes "SELECT id, device, first_day, less, withdrawal FROM correction ORDER BY id"
    ∷ codes "SELECT gsrn, carrier FROM device_carrier ORDER BY rowid"
    ∷ codes "SELECT lot, carrier FROM lot_carrier ORDER BY lot"
    ∷ []
