-- The pages that the slots of a slab make, and what is true of every store.
use Rattle.std.specs.FinMap as map
use Rattle.slab.specs.Slab.{Slab, entries}
use Rattle.mlt_page.specs.{declared.page.Page.Page, Stores.Pages}

-- each value under its key
abbrev pub pages_of : Slab Page → Pages
pages_of slab = map.from_entries (entries slab)
