-- What an order adds to the table of relation codes; the table of the orders between nodes that stand.
pub mod Links
pub mod Among
