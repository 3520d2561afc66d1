-- The limits, as the numbers that the program compares with.
use mathlib.Core.Path.{◌≡◌, refl}
use Rattle.unification.specs.Unification.{most_work, most_bindings, most_links}

pub links_8192 : most_links ≡ 8192
unfolding most_links
links_8192 = refl

pub bindings_8192 : most_bindings ≡ 8192
unfolding most_bindings
bindings_8192 = refl

pub work_16384 : most_work ≡ 16384
unfolding most_work
work_16384 = refl
