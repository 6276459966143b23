-- What the tables of a search hold.
use Rattle.std.specs.Prelude.{◌≡◌, ℕ, List, Some}
use Rattle.star_model.specs.Expected.{Expected, ForGoal, Call, glue_of}
use Rattle.star_model.specs.declared.query.Query.{Query}
use Rattle.star_model.specs.declared.rules.RuleFile.{RuleFile}
use Rattle.star_model.specs.declared.values.RuleValue.{RuleValue}
use Rattle.lolepop.specs.Derived.{DerivedPlan}
use Rattle.shared_sets.specs.Tables.{kept_for, glued_for}
use Rattle.shared_sets.specs.declared.glued_sets.GlueRequest.{GlueRequest}
use Rattle.shared_sets.specs.declared.ref_table.StarCall.{StarCall}
use Rattle.shared_sets.specs.declared.tables.Tables.{Tables}
use Rattle.exchange.specs.Places.{IsBestOf}

module _ (q : Query) (rules : RuleFile) where
  -- the best of each place whose Glue asks for this
  abbrev pub IsGlued : GlueRequest → List DerivedPlan → Type 0
  IsGlued r plans = (x : Expected) → glue_of q x ≡ Some (r.require, ForGoal r.goal.tables r.goal.pushed) → IsBestOf q rules x plans

  -- each call that was kept has its own set
  unfoldable pub HoldsReferences : List (StarCall × List DerivedPlan) → Type 0
  HoldsReferences table = (star : List ℕ) (env : List RuleValue) (plans : List DerivedPlan) → kept_for table star env ≡ Some plans → IsBestOf q rules (Call star env) plans

  -- each request that was put has its own set
  unfoldable pub HoldsGlued : List (GlueRequest × List DerivedPlan) → Type 0
  HoldsGlued table = (r : GlueRequest) (plans : List DerivedPlan) → glued_for table r ≡ Some plans → IsGlued r plans

  pub record HoldsShared (t : Tables) : Type 0 where
    pub references : HoldsReferences t.references
    pub glued : HoldsGlued t.glued
