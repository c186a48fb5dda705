mod ExpressionExamples
mod FaultExamples
mod NetworkExamples
mod ProcessExamples
mod TurnExamples
mod UsageExamples
mod Meetings
