-- The routes, and which one a target meets.
use Rattle.std.specs.Prelude.{ℕ, ◌==◌, ◌-◌, ◌&&◌, Bool, false, not, min, List, [], ◌∷◌, codes, length, take, drop, Option, None, option_map, Result, Ok, Err, if◌then◌else◌}
use Rattle.std.specs.List.{list_any}
use Rattle.matchit.specs.declared.error.InsertError.{InsertError}
use Rattle.matchit.specs.Rows.{RowsOf}
use Rattle.matchit.specs.Route.{Scan, parse_route}
use Rattle.matchit.specs.Order.{placed}
use Rattle.matchit.specs.Seek.{first}
use Rattle.matchit.specs.Router.{RouteOf, route_from}
use Rattle.goo_desk_heads.specs.declared.method.Method.{Method}
use Rattle.goo_desk_heads.specs.declared.method.Method.TheVariants.{Get, Post}
use Rattle.goo_desk_routes.specs.declared.route.Route.{Route}
use Rattle.goo_desk_routes.specs.declared.route.Route.TheVariants.{Requests, Declarations, Statement, Certificate, Cancellation, Notice, Audit}

-- the method that a route takes
abbrev pub method_of : Route → Method
method_of Requests = Post
method_of Declarations = Post
method_of _ = Get

-- the rows with one more route, in its place
abbrev pub with_scan : Result Scan InsertError → Route → RowsOf (RouteOf Route) → RowsOf (RouteOf Route)
with_scan (Ok s) value rows = placed (s.pattern, route_from s value) rows
with_scan (Err e) value rows = rows

abbrev pub with_route : List ℕ → Route → RowsOf (RouteOf Route) → RowsOf (RouteOf Route)
with_route text value rows = with_scan (parse_route text) value rows

-- the registry's routes
unfoldable pub goo_desk_routes : RowsOf (RouteOf Route)
goo_desk_routes =
    with_route (codes "/v1/audit") Audit
    (with_route (codes "/v1/notices/{k}") Notice
    (with_route (codes "/v1/cancellations/{k}") Cancellation
    (with_route (codes "/v1/certificates/{n}") Certificate
    (with_route (codes "/v1/accounts/{a}/statement") Statement
    (with_route (codes "/v1/declarations") Declarations
    (with_route (codes "/v1/requests") Requests []))))))

-- the texts around the part of a path that names something
abbrev pub before : Route → List ℕ
before Statement = codes "/v1/accounts/"
before Certificate = codes "/v1/certificates/"
before Cancellation = codes "/v1/cancellations/"
before Notice = codes "/v1/notices/"
before Requests = codes "/v1/requests"
before Declarations = codes "/v1/declarations"
before Audit = codes "/v1/audit"

abbrev pub after : Route → List ℕ
after Statement = codes "/statement"
after _ = codes ""

abbrev pub without_end : ℕ → List ℕ → List ℕ
without_end count text = take (length text - count) text

-- the part of a path that names something: what stands between the two
unfoldable pub part_of : Route → List ℕ → List ℕ
part_of route path = without_end (length (after route)) (drop (min (length (before route)) (length path)) path)

-- the route that a path meets in a router, and that part
abbrev pub met_by : RowsOf (RouteOf Route) → List ℕ → Option (Route × List ℕ)
met_by rows path = option_map (λ found. (found.value, part_of found.value path)) (first rows path)

-- a target that begins with a slash and has no question mark
abbrev pub is_path : List ℕ → Bool
is_path [] = false
is_path (b ∷ rest) = (b == 47) && not (list_any (λ c. c == 63) rest)

-- the route that a target meets
unfoldable pub found_by : List ℕ → Option (Route × List ℕ)
found_by target = if is_path target then met_by goo_desk_routes target else None
