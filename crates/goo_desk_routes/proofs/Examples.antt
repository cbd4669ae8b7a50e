-- Which targets meet which routes: worked by hand, and computed.
use Rattle.std.proofs.Common.{◌≡◌, codes, Some, None, refl}
use Rattle.matchit.proofs.OnLiterals.{matchit_on_literals}
use Rattle.goo_desk_routes.specs.Routes.{found_by, goo_desk_routes, part_of}
use Rattle.goo_desk_routes.specs.declared.route.Route.TheVariants.{Requests, Declarations, Statement, Certificate, Cancellation, Notice, Audit}

audit : found_by (codes "/v1/audit") ≡ Some (Audit, codes "")
unfolding matchit_on_literals goo_desk_routes found_by part_of
audit = refl

statement : found_by (codes "/v1/accounts/001/statement") ≡ Some (Statement, codes "001")
unfolding matchit_on_literals goo_desk_routes found_by part_of
statement = refl

notice : found_by (codes "/v1/notices/%31") ≡ Some (Notice, codes "%31")
unfolding matchit_on_literals goo_desk_routes found_by part_of
notice = refl

-- a part that is empty meets no route
no_account : found_by (codes "/v1/accounts//statement") ≡ None
unfolding matchit_on_literals goo_desk_routes found_by part_of
no_account = refl

no_notice : found_by (codes "/v1/notices/") ≡ None
unfolding matchit_on_literals goo_desk_routes found_by part_of
no_notice = refl

-- nor does one of two segments, or a slash at the end
two_segments : found_by (codes "/v1/notices/1/2") ≡ None
unfolding matchit_on_literals goo_desk_routes found_by part_of
two_segments = refl

slash_after : found_by (codes "/v1/audit/") ≡ None
unfolding matchit_on_literals goo_desk_routes found_by part_of
slash_after = refl

question : found_by (codes "/v1/audit?all") ≡ None
unfolding matchit_on_literals goo_desk_routes found_by part_of
question = refl

absolute : found_by (codes "http://x/v1/audit") ≡ None
unfolding matchit_on_literals goo_desk_routes found_by part_of
absolute = refl
