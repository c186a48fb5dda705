mod Cutting
mod Digits
mod Files
mod PlanLemmas
