-- What a whole request is to be answered with: its target, then its method, then its caller, then what its path names.
use Rattle.std.specs.Prelude.{ℕ, List, Option, Some, None, Result, Ok, Err, if◌then◌else◌}
use Rattle.std.specs.Str.{bytes_eq}
use Rattle.goo_types.specs.Codes.{holder_reading}
use Rattle.goo_types.specs.declared.text_fault.TextFault.{TextFault}
use Rattle.goo_desk_heads.specs.Methods.{method_word}
use Rattle.goo_desk_heads.specs.Requests.{Parts}
use Rattle.goo_desk_responses.specs.declared.status.Status.TheVariants.{NotFound, Forbidden, MethodNotAllowed}
use Rattle.goo_desk_routes.specs.Routes.{found_by, method_of}
use Rattle.goo_desk_routes.specs.Tasks.{task_of}
use Rattle.goo_desk_routes.specs.declared.route.Route.{Route}
use Rattle.goo_desk_routes.specs.declared.task.Task.{Task}
use Rattle.goo_desk_answers.specs.declared.handling.Handling.{Handling}
use Rattle.goo_desk_answers.specs.declared.handling.Handling.TheVariants.{Fixed, Own}

abbrev pub read_caller : Result (List ℕ) TextFault → Option (List ℕ)
read_caller (Ok caller) = Some caller
read_caller (Err fault) = None

-- the caller that the only field for it names
abbrev pub caller_by : Option (List ℕ) → Option (List ℕ)
caller_by None = None
caller_by (Some text) = read_caller (holder_reading text)

-- a part of the path that its reader refuses names nothing
abbrev pub handling_by_task : List ℕ → Option Task → Handling
handling_by_task caller None = Fixed NotFound None
handling_by_task caller (Some task) = Own caller task

abbrev pub handling_by_caller : Route × List ℕ → Option (List ℕ) → Handling
handling_by_caller met None = Fixed Forbidden None
handling_by_caller met (Some caller) = handling_by_task caller (task_of met.0 met.1)

abbrev pub handling_by_route : Parts → Option (Route × List ℕ) → Handling
handling_by_route p None = Fixed NotFound None
handling_by_route p (Some met) =
    if bytes_eq p.method (method_word (method_of met.0)) then handling_by_caller met (caller_by p.caller)
    else Fixed MethodNotAllowed (Some (method_of met.0))

-- what a whole request is to be answered with
unfoldable pub handling_of : Parts → Handling
handling_of p = handling_by_route p (found_by p.target)
