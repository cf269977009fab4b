pub mod Congruent
pub mod OuterLaw
pub mod Predicates
pub mod Together
pub mod OuterPutting
mod MatchPlans
mod MatchedPlans
mod FittingRows
mod PlainProjections
mod ProjectedPlans
mod WithPlans
pub mod Copying
pub mod Equal
pub mod Meets
pub mod Ranges
pub mod ValueKeys
pub mod Partners
pub mod KeysInside
pub mod SemiRows
pub mod PathRows
pub mod PathSteps
pub mod SideSteps
pub mod FilterSteps
pub mod KeptSteps
pub mod ClausePlans
pub mod ClauseSteps
pub mod ConditionAlone
pub mod GoingOn
pub mod OptionalSteps
pub mod PatternPremises
pub mod QuerySteps
pub mod Rewriting
pub mod Sums
pub mod UnderWay
pub mod Unions
pub mod ViewClauses
pub mod WherePaths
