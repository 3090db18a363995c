-- Four classes by their numbers. 02, request 13: "The desk holds four sheets, each loaded and rated by its class number 1 to 4."
use Rattle.std.specs.Prelude.{Bool, ◌&&◌, cond, ℕ, leb, eqb}
use Rattle.codelist.specs.declared.Codelist.{Codelist}
use Rattle.engine.specs.declared.Engine.{Engine}
use Rattle.engine.specs.Engine.{empty_engine}
use Rattle.classes.specs.declared.Classes.{Classes}

-- "its class number 1 to 4"
unfoldable pub is_class : ℕ → Bool
is_class k = leb 1 k && leb k 4

-- "A desk is started empty" (01): each class of it
unfoldable pub empty_classes : Classes
empty_classes = record { first = empty_engine; second = empty_engine; third = empty_engine; fourth = empty_engine }

-- the engine of class k; another number has an empty one
unfoldable pub engine_at : Classes → ℕ → Engine
engine_at d k =
    cond (eqb k 1) d.first (cond (eqb k 2) d.second (cond (eqb k 3) d.third (cond (eqb k 4) d.fourth empty_engine)))

abbrev pub codelist_at : Classes → ℕ → Codelist
codelist_at d k = (engine_at d k).codelist

-- class k with the engine e, and the others as they are
unfoldable pub with_engine : Classes → ℕ → Engine → Classes
with_engine d k e = record {
  first = cond (eqb k 1) e d.first;
  second = cond (eqb k 2) e d.second;
  third = cond (eqb k 3) e d.third;
  fourth = cond (eqb k 4) e d.fourth;
}
