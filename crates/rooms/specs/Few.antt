-- A list by value.
use Rattle.std.specs.Prelude.{ℕ, List, take}
use Rattle.rooms.specs.declared.few.Few.{Few}

-- the things that it holds
unfoldable pub items_of : {T : Type 0} {n : ℕ} → Few T n → List T
items_of x = take x.len x.held
