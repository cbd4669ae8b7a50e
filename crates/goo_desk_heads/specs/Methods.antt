-- The methods that some route takes.
use Rattle.std.specs.Prelude.{ℕ, List, codes}
use Rattle.goo_desk_heads.specs.declared.method.Method.{Method}
use Rattle.goo_desk_heads.specs.declared.method.Method.TheVariants.{Get, Post}

abbrev pub method_word : Method → List ℕ
method_word Get = codes "GET"
method_word Post = codes "POST"
