-- What is said of a success and of a failure.
use Rattle.std.proofs.Common.{Result, Ok, Err, OnOk, OnErr}

pub on_err : {T E P : Type 0} (r : Result T E) → P → OnErr r P
on_err (Ok x) p = tt
on_err (Err e) p = p

pub on_err_as : {T E P Q : Type 0} (r : Result T E) → (P → Q) → OnErr r P → OnErr r Q
on_err_as (Ok x) so p = tt
on_err_as (Err e) so p = so p

pub on_ok_as : {T E P Q : Type 0} (r : Result T E) → (P → Q) → OnOk r P → OnOk r Q
on_ok_as (Ok x) so p = so p
on_ok_as (Err e) so p = p
