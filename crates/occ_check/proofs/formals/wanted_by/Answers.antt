use Rattle.occ_check.proofs.formals.wanted_by.Goals as goal

pub returns-in-Value : goal.returns-in-Value
returns-in-Value c = rw c.in-Value.is (rw (c.deref.ensures.value, c.primitive_of-primitive.ensures) at c.value_wanted.ensures)

pub returns-in-Variable : goal.returns-in-Variable
returns-in-Variable c = rw c.in-Variable.is (rw (c.deref-in-Variable.ensures.value, c.primitive_of-primitive-in-Variable.ensures) at c.variable_wanted.ensures)

pub returns-in-Channel : goal.returns-in-Channel
returns-in-Channel c = rw c.in-Channel.is (rw c.deref-in-Channel.ensures.value at c.channels_wanted.ensures)
