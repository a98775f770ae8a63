-- Names of other crates, of std and of specs/ that two files of these proofs or more import. Declares nothing.
pub use Rattle.mlt_page.{specs.declared.page.Page.Page, proofs.Numbered.same_pages, specs.Stores.PageStore, specs.Stores.Pages, specs.Stores.page_at}
pub use Rattle.mlt_page_locks.proofs.Maps.{get_inserted}
pub use Rattle.mlt_page_subtx.specs.{ImageLists.images_in, ImageLists.images_of, Images.AreThere, Images.Images, Images.Running, Images.image_of, Images.put_back, Images.with_first, declared.image.Image.Image}
pub use Rattle.std.proofs.lemmas.Bool.{false≢true, Decides.nat_tests}
