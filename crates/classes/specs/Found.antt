-- The engine that a call by class number finds: that of its class, or none, for 21.
use Rattle.std.specs.Prelude.{◌≡◌, ℕ, true, false, Result}
use Rattle.std.specs.Borrow.{MutBor, Fml, LendsIfOk}
use Rattle.engine.specs.declared.Engine.{Engine}
use Rattle.engine.specs.contracts.Engine as engine
use Rattle.classes.specs.declared.Classes.{Classes}
use Rattle.classes.specs.contracts.Classes as classes
use Rattle.classes.specs.declared.Refusal.{Refusal}
use Rattle.classes.specs.declared.Refusal.TheVariants.{Class}
use Rattle.classes.specs.Classes.{is_class, engine_at, with_engine}

abbrev pub IsEngineOf : Classes → ℕ → Engine → Type 0
IsEngineOf d k e = (is_class k ≡ true) × (e ≡ engine_at d k)

abbrev pub HasNoEngine : ℕ → Refusal → Type 0
HasNoEngine k r = (is_class k ≡ false) × (r ≡ Class)

-- what is written there is the engine of that class
abbrev pub LendsEngine : MutBor Classes → ℕ → Result (MutBor Engine) Refusal → Fml
LendsEngine d k r = LendsIfOk classes.the_row engine.the_row d r (with_engine d.now k) d.now
