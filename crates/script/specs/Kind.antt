-- The kinds of calls, and the number of each.
use Rattle.std.specs.Prelude.{◌≡◌, ℕ, ◌<◌, Result, MatchResult}
use Rattle.script.specs.declared.kind.Kind.{Kind}
use Rattle.script.specs.declared.kind.Kind.TheVariants.{Clear, Declare, Sample, Close, Read, Verdict}
use Rattle.script.specs.declared.kind.UnknownKind.{UnknownKind}
use Rattle.script.specs.Script.{last_kind}

-- the number of a kind
abbrev pub number_of : Kind → ℕ
number_of Clear = 0
number_of Declare = 1
number_of Sample = 2
number_of Close = 3
number_of Read = 4
number_of Verdict = 5

-- the kind with this number, or an error with a number that no kind has
abbrev pub Decodes : ℕ → Result Kind UnknownKind → Type 0
Decodes number r = MatchResult r (λ kind. number_of kind ≡ number) (λ e. (e.0 ≡ number) × (last_kind < number))
