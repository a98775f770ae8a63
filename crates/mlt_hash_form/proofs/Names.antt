-- Names of other crates, of std and of specs/ that two files of these proofs or more import. Declares nothing.
pub use Rattle.mlt_hash_form.specs.{Changes.ChangesRecord, Changes.IsHome, Changes.IsOpening, Changes.IsSplit, Changes.MaySplit, Changes.slot_change, File.HasForm, File.IsDirectory, File.IsOnceLive, File.IsPath, File.Writes, File.bucket_of, File.buckets_of, File.depth_of, File.dirs_of, File.entries_of, File.entry, File.header_of, File.lead_of, File.look_up, Form.HasSlot, Form.IsSpread, Form.MaySet, Form.SetsOneSlot, Form.SplitsBucket, Form.is_used, Form.slot_at, Form.slot_value, Form.spread, Form.value_in, Held.Agrees, Held.ChangesFile, Held.over, Records.live_records, Splits.IsFilling, Splits.IsLonger, Splits.IsMidway, Splits.bucket_split, Splits.directory_change, Splits.prefix_of, Splits.run_length, Splits.run_start, Splits.target}
pub use Rattle.mlt_page.specs.{Bits.bit_at, Bits.first_bits, Slots.half, Slots.is_kept, Slots.is_live_of, Slots.key_of, Values.BucketFields, Values.HeadFields, declared.page.Page.Page, declared.slot.Slot.Slot, declared.slot.Slot.TheVariants.Free, declared.slot.Slot.TheVariants.Ghost, declared.slot.Slot.TheVariants.Live}
pub use Rattle.std.{proofs.lemmas.Bool.and_from, proofs.lemmas.Bool.and_parts, proofs.lemmas.Bool.both_ways, proofs.lemmas.Bool.cases_Bool, proofs.lemmas.Bool.cases_eq, proofs.lemmas.Bool.cases_lt, proofs.lemmas.Bool.cond-false, proofs.lemmas.Bool.cond-true, proofs.lemmas.Bool.or_cases, proofs.lemmas.Cmp.nat_cmp_total, proofs.lemmas.List.get_or_past, proofs.lemmas.List.length-map, proofs.lemmas.Nat.shl-shr, proofs.lemmas.Nat.shr_below, proofs.lemmas.Option.none-some, proofs.lemmas.Option.same_Some, specs.FinMap.nat_cmp-IsAntisymmetric, specs.List.list_any, specs.Ordering.eq_by_cmp}
