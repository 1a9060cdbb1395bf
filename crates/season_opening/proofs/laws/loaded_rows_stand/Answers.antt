use Rattle.season_opening.proofs.laws.loaded_rows_stand.Goals as goal

pub returns : goal.returns
returns c m rows book made keepable is =
    c.rows_in_order_stand.ensures.restored m keepable.rows rows book keepable.stood keepable.order keepable.items is made.order made.told
