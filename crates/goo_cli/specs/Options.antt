-- The options of a command, as they were given.
use Rattle.std.specs.Prelude.{Bool, false, List, codes, Option, Some, None, option_map}
use Rattle.std.specs.Str.{bytes_eq}
use Rattle.clap.specs.Words.{Row, Text, first_of}
use Rattle.goo_cli.specs.declared.given.Given.{Given}

-- the text of each option that was given, and whether the records are in memory
pub record Values : Type 0 where
  pub file : Option Text
  pub is_in_memory : Bool
  pub code : Option Text
  pub today : Option Text
  pub next_serial : Option Text
  pub account : Option Text
  pub port : Option Text
  pub count : Option Text

abbrev pub values_of : Given → Values
values_of g = record {
  file = option_map (λ text. text.now) g.file;
  is_in_memory = g.is_in_memory;
  code = option_map (λ text. text.now) g.code;
  today = option_map (λ text. text.now) g.today;
  next_serial = option_map (λ text. text.now) g.next_serial;
  account = option_map (λ text. text.now) g.account;
  port = option_map (λ text. text.now) g.port;
  count = option_map (λ text. text.now) g.count;
}

abbrev pub is_set : Option Text → Bool
is_set None = false
is_set (Some flag) = bytes_eq flag (codes "true")

-- the first value of each in the matches of a command
unfoldable pub values_in : List Row → Values
values_in rows = record {
  file = first_of (codes "db") rows;
  is_in_memory = is_set (first_of (codes "memory") rows);
  code = first_of (codes "code") rows;
  today = first_of (codes "today") rows;
  next_serial = first_of (codes "next-serial") rows;
  account = first_of (codes "account") rows;
  port = first_of (codes "port") rows;
  count = first_of (codes "count") rows;
}
