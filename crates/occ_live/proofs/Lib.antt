mod Answers
mod Runs
mod Shown
mod Standing
