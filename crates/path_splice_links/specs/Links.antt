-- A link as a word of scratch.
use Rattle.std.specs.Prelude.{ℕ, Option, Some, None}
use Rattle.path_splice_rule.specs.Splice.{free, to}
use Rattle.path_splice_rule.specs.declared.Endpoint.{Endpoint}

abbrev pub link_word : Option Endpoint → ℕ
link_word (Some f) = to f.0
link_word None = free
