-- The working form of a result's size, place by place.
use Rattle.std.specs.Prelude.{ℕ, ◌+◌, ◌-◌, cond, List, [], ◌∷◌}
use Rattle.pattern.specs.declared.Place.{Place}

-- how many bytes a place gives beside a content of `contentLen` bytes
unfoldable pub place_size : ℕ → Place → ℕ
place_size content_len p = cond p.matched content_len (p.end.0 - p.start.0)

unfoldable pub places_size : ℕ → List Place → ℕ
places_size content_len [] = 0
places_size content_len (p ∷ ps) = place_size content_len p + places_size content_len ps
