use Rattle.plan.specs.Plans.{by_position, by_level}
use Rattle.plan.specs.declared.any.AnyPlan.TheVariants.{Position, Level}
use Rattle.kushrebat.proofs.Carried.{made}
use Rattle.kushrebat.proofs.session.planned.Goals as goal

pub returns-in-Position : goal.returns-in-Position
returns-in-Position c =
    rw c.in-Position.is
    (made by_position Position _ _ c.new.result _ (λ p h. h) c.new.ensures c.map.ensures.cases)

pub returns-in-Level : goal.returns-in-Level
returns-in-Level c =
    rw c.in-Level.is
    (made by_level Level _ _ c.new-in-Level.result _ (λ p h. h) c.new-in-Level.ensures c.map-in-Level.ensures.cases)
