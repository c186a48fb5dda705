mod Growing
mod MadeSame
mod SameInstr
