-- What the program `cut` prints: as `rate`.
use Rattle.std.specs.Prelude.{List, ℕ}
use Rattle.writer.specs.Texts.{refused_text}
use Rattle.text.specs.Output.{limits_text}
use Rattle.bisection.specs.declared.Refusal.{Refusal}
use Rattle.bisection.specs.InFull.{Outcome}
use Rattle.bisection.specs.InFull.{Accepted, Refused}
use Rattle.bisection.specs.InFull.{Bisected}
use Rattle.bisection.specs.Cut.{number_of, place_of}

-- THE TEXT OF A REFUSAL: the writer's, of the refusal's number and place
unfoldable pub refusal_text : Refusal → List ℕ
refusal_text r = refused_text (number_of r) (place_of r)

-- a text where the class is accepted, else the refusal's
abbrev pub unless_refused : Outcome → List ℕ → List ℕ
unless_refused Accepted t = t
unless_refused (Refused r) t = refusal_text r

-- THE TEXT OF AN ANSWER for n factors
abbrev pub bisected_text : ℕ → Bisected → List ℕ
bisected_text n b = unless_refused b.outcome (limits_text n b.limits)
