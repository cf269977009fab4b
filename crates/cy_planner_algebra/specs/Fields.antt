-- The operator that is made of some fields. (own)
use Rattle.cy_planner_algebra.specs.declared.operators.Fields.{Fields}
use Rattle.cy_planner_algebra.specs.declared.operators.Fields.TheVariants as fields
use Rattle.cy_planner_algebra.specs.declared.operators.Operator.{Operator}
use Rattle.cy_planner_algebra.specs.declared.operators.Operator.TheVariants as operator

abbrev pub operator_of : Fields → Operator
operator_of fields.Unit = operator.Unit
operator_of fields.Nodes = operator.Nodes
operator_of (fields.Rels types orientation) = operator.Rels types orientation
operator_of (fields.Join left right keys) = operator.Join left right keys
operator_of (fields.Outer left right keys test) = operator.Outer left right keys test
operator_of (fields.Semi left right keys keeping) = operator.Semi left right keys keeping
operator_of (fields.Lookup below column attribute) = operator.Lookup below column attribute
operator_of (fields.Filter below test) = operator.Filter below test
operator_of (fields.AllDifferent below columns) = operator.AllDifferent below columns
operator_of (fields.Project below outputs) = operator.Project below outputs
operator_of (fields.Distinct below) = operator.Distinct below
operator_of (fields.Union left right) = operator.Union left right
