-- What holds of an answer holds in other words too.
use Rattle.std.specs.Prelude.{Result, Ok, Err, IfOk, OnOk}

pub if_ok_map : {X E : Type 0} (P Q : X → Type 0) (r : Result X E) → ((x : X) → P x → Q x) → IfOk r P → IfOk r Q
if_ok_map P Q (Ok x) g h = g x h
if_ok_map P Q (Err e) g h = h

pub on_ok_map : {X E : Type 0} (P Q : Type 0) (r : Result X E) → (P → Q) → OnOk r P → OnOk r Q
on_ok_map P Q (Ok x) g h = g h
on_ok_map P Q (Err e) g h = h
