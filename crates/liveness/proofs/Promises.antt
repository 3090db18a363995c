-- What tidying promises: `tidies`. Assumes nothing.
use Rattle.liveness.specs.Promises.{Tidies}
use Rattle.liveness.proofs.Used.{computed}
use Rattle.liveness.proofs.Tidied.{tidied-year, tidied-factors}
use Rattle.liveness.proofs.Again.{no-dead-line, idempotent}
use Rattle.liveness.proofs.Same.{same-rating, same-premium}
use Rattle.liveness.proofs.Differ.{differ}
use Rattle.liveness.proofs.Lengths.{no_longer, at_most}
use Rattle.liveness.proofs.Calls.{loads, again, year-unnamed, leaves, written-exactly}
use Rattle.liveness.proofs.Refusals.{table, numbers, never-short, never-13, untouched}
use Rattle.liveness.proofs.Printed.{whole}
use Rattle.liveness.proofs.Engine.{calls}

pub tidies : Tidies
tidies = record {
  computed = computed;
  factors = tidied-factors;
  year = tidied-year;
  year-unnamed = year-unnamed;
  loads = loads;
  no-dead-line = no-dead-line;
  idempotent = idempotent;
  idempotent-bytes = again;
  same-result = λ c w xs. (same-rating c w xs).result;
  same-refusal = λ c w xs. (same-rating c w xs).refusal;
  differ = differ;
  same-premium = same-premium;
  at_most = at_most;
  no_longer = no_longer;
  never-short = never-short;
  table = table;
  writes = written-exactly;
  numbers = numbers;
  leaves = λ s b n c h l. leaves s c l b n h;
  untouched = untouched;
  calls = calls;
  whole = whole;
  never-13 = never-13;
}
