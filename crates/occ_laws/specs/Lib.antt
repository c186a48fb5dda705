pub mod ExpressionExamples
pub mod FaultExamples
pub mod NetworkExamples
pub mod ProcessExamples
pub mod TurnExamples
pub mod UsageExamples
pub mod ValueExamples
