-- What a route and the part of a path that it names ask for.
use Rattle.std.specs.Prelude.{ℕ, ◌&&◌, Bool, nat_lt, nat_le, List, length, Option, Some, None, option_map, option_and_then, Result, Ok, Err, if◌then◌else◌}
use Rattle.std.specs.List.{list_all}
use Rattle.std.specs.Char.{is_ascii_digit}
use Rattle.std.specs.Str.Parse.{digits_value}
use Rattle.goo_types.specs.Number.{number_reading}
use Rattle.goo_types.specs.declared.number.NumberFault.{NumberFault}
use Rattle.goo_desk_routes.specs.declared.route.Route.{Route}
use Rattle.goo_desk_routes.specs.declared.route.Route.TheVariants as route
use Rattle.goo_desk_routes.specs.declared.task.Subject.TheVariants.{Statement, Certificate, Cancellation, Notice, Audit}
use Rattle.goo_desk_routes.specs.declared.task.Task.{Task}
use Rattle.goo_desk_routes.specs.declared.task.Task.TheVariants.{Apply, Import, Show}

-- one to nine digits
abbrev pub is_short_number : List ℕ → Bool
is_short_number text = nat_lt 0 (length text) && nat_le (length text) 9 && list_all is_ascii_digit text

-- the number of one to nine digits
abbrev pub number_in : List ℕ → Option ℕ
number_in text = if is_short_number text then Some (digits_value 10 text) else None

-- numbers of accounts and acts begin with 1
abbrev pub from_one : ℕ → Option ℕ
from_one n = if nat_lt 0 n then Some n else None

abbrev pub account_in : List ℕ → Option ℕ
account_in part = option_and_then from_one (number_in part)

abbrev pub act_in : List ℕ → Option ℕ
act_in part = option_and_then from_one (number_in part)

abbrev pub result_ok : Result ℕ NumberFault → Option ℕ
result_ok (Ok n) = Some n
result_ok (Err e) = None

abbrev pub certificate_in : List ℕ → Option ℕ
certificate_in part = result_ok (number_reading part)

-- what is to be done; None where the reader of the part refuses it
unfoldable pub task_of : Route → List ℕ → Option Task
task_of route.Requests part = Some Apply
task_of route.Declarations part = Some Import
task_of route.Statement part = option_map (λ a. Show (Statement a)) (account_in part)
task_of route.Certificate part = option_map (λ n. Show (Certificate n)) (certificate_in part)
task_of route.Cancellation part = option_map (λ k. Show (Cancellation k)) (act_in part)
task_of route.Notice part = option_map (λ k. Show (Notice k)) (act_in part)
task_of route.Audit part = Some (Show Audit)
